-- The limits, a name for each.
use Rattle.std.specs.Prelude.{ℕ}

-- 01, Refusal numbers: the limits
abbrev pub longest_image : ℕ
longest_image = 32768

abbrev pub deepest_table : ℕ
deepest_table = 8

abbrev pub most_lines_of_table : ℕ
most_lines_of_table = 99

abbrev pub most_lines : ℕ
most_lines = 1024

abbrev pub most_fields : ℕ
most_fields = 256

abbrev pub longest_password : ℕ
longest_password = 8

abbrev pub longest_sheet : ℕ
longest_sheet = 4096

-- 01, Image, and 7.3: its bytes; the top table follows them
abbrev pub prolog_bytes : ℕ
prolog_bytes = 10
