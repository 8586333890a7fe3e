-- The image of the picture that 01 prints, byte by byte.
use Rattle.std.specs.Prelude.{ℕ, List, [], ◌∷◌}

-- 01, Picture, the example: title TEST; 'P1 ' and an option no/yes; 'Log' with a submenu; 62 bytes, a row for
-- each structure with its place
abbrev pub image : List ℕ
image =
    0x43 ∷ 0x4d ∷ 0x46 ∷ 0 ∷ 4 ∷ 0 ∷ 0 ∷ 0 ∷ 0xff ∷ 0xfe ∷  -- 0: prolog
    4 ∷ 0x54 ∷ 0x45 ∷ 0x53 ∷ 0x54 ∷  -- 10: title TEST
    0x01 ∷ 26 ∷ 0 ∷  -- 15: first line; the next is 26 on
    0x15 ∷ 3 ∷ 0x50 ∷ 0x31 ∷ 0x20 ∷  -- 18: text 'P1 '
    0 ∷  -- 23: padding
    -- 24: editable option, last; sheet byte 0, 17 bytes, 2 items, 3 wide, default 0
    0xb4 ∷ 0 ∷ 0 ∷ 0 ∷ 0 ∷ 0 ∷ 17 ∷ 2 ∷ 3 ∷ 0 ∷
    2 ∷ 0x6e ∷ 0x6f ∷  -- 34: no
    3 ∷ 0x79 ∷ 0x65 ∷ 0x73 ∷  -- 37: yes
    0x0a ∷ 26 ∷ 0 ∷ 41 ∷ 0 ∷  -- 41: last line, with a submenu at 10 + 41; the line before is 26 back
    0x95 ∷ 3 ∷ 0x4c ∷ 0x6f ∷ 0x67 ∷  -- 46: text 'Log', last
    4 ∷ 0x4c ∷ 0x6f ∷ 0x67 ∷ 0x73 ∷  -- 51: title Logs
    0 ∷  -- 56: padding
    0x03 ∷  -- 57: first and last line
    0x95 ∷ 2 ∷ 0x4f ∷ 0x4b ∷  -- 58: text 'OK', last
    []
