-- The images of 01's cases and of some more, as short as section 7 lets them be: a row for each structure,
-- with its place.
use Rattle.std.specs.Prelude.{ℕ, List, [], ◌∷◌}
use Rattle.cmf.specs.Example.{image}

-- the image of 01's picture, which `cmf` has as its example of the grammar: the option is at 24
abbrev pub pictured : List ℕ
pictured = image

-- ---- one line with one component

-- title T and one line; its components follow from 14 on
abbrev alone : List ℕ → List ℕ
alone components =
    0x43 ∷ 0x4d ∷ 0x46 ∷ 0 ∷ 4 ∷ 0 ∷ 0 ∷ 0 ∷ 0xff ∷ 0xfe ∷  -- 0: prolog
    1 ∷ 0x54 ∷  -- 10: title T
    0 ∷  -- 12: padding
    0x03 ∷  -- 13: first and last line
    components

-- each is editable and the last of its line (0xa0), with no update and no handler, at sheet place 1

-- counter (code 0x0d, 15 bytes) from -5 to 100 by 10, default 98, three wide
abbrev pub counter : List ℕ
counter =
    alone
    (0xad ∷ 0 ∷ 0 ∷ 0 ∷ 1 ∷ 0 ∷  -- 14: tag, update, call-addr, var-addr
    0xfb ∷ 0xff ∷ 100 ∷ 0 ∷ 10 ∷ 0 ∷ 98 ∷ 0 ∷ 3 ∷  -- 20: min, max, step, default, field-width
    [])

-- counter from -32768 to 32767 by 10, default 32760 (0x7ff8), six wide
abbrev pub wide_counter : List ℕ
wide_counter =
    alone
    (0xad ∷ 0 ∷ 0 ∷ 0 ∷ 1 ∷ 0 ∷  -- 14: tag, update, call-addr, var-addr
    0 ∷ 0x80 ∷ 0xff ∷ 0x7f ∷ 10 ∷ 0 ∷ 0xf8 ∷ 0x7f ∷ 6 ∷  -- 20: min, max, step, default, field-width
    [])

-- time HH:MM:SS (code 0x0f, 9 bytes), default 23:05:07
abbrev pub clock : List ℕ
clock =
    alone
    (0xaf ∷ 0 ∷ 0 ∷ 0 ∷ 1 ∷ 0 ∷  -- 14: tag, update, call-addr, var-addr
    23 ∷ 5 ∷ 7 ∷  -- 20: hours, minutes, seconds
    [])

-- uchar ddd (code 0x01, 7 bytes), default 0
abbrev pub three_digits : List ℕ
three_digits =
    alone
    (0xa1 ∷ 0 ∷ 0 ∷ 0 ∷ 1 ∷ 0 ∷  -- 14: tag, update, call-addr, var-addr
    0 ∷  -- 20: default
    [])

-- ---- a submenu

-- the second line leads to table S; delay-to-top (byte 5) is 3
abbrev pub returning : List ℕ
returning =
    0x43 ∷ 0x4d ∷ 0x46 ∷ 0 ∷ 4 ∷ 3 ∷ 0 ∷ 0 ∷ 0xff ∷ 0xfe ∷  -- 0: prolog
    1 ∷ 0x54 ∷  -- 10: title T
    0 ∷  -- 12: padding
    0x01 ∷ 6 ∷ 0 ∷  -- 13: first line; the next is 6 on
    0x95 ∷ 1 ∷ 0x61 ∷  -- 16: text 'a', last
    0x0a ∷ 6 ∷ 0 ∷ 17 ∷ 0 ∷  -- 19: last line, with a submenu at 10 + 17; the line before is 6 back
    0x95 ∷ 1 ∷ 0x62 ∷  -- 24: text 'b', last
    1 ∷ 0x53 ∷  -- 27: title S
    0x03 ∷  -- 29: first and last line
    0x95 ∷ 1 ∷ 0x63 ∷  -- 30: text 'c', last
    []

-- the only line leads to table S, which is protected by 12
abbrev pub protecting : List ℕ
protecting =
    0x43 ∷ 0x4d ∷ 0x46 ∷ 0 ∷ 4 ∷ 0 ∷ 0 ∷ 0 ∷ 0xff ∷ 0xfe ∷  -- 0: prolog
    1 ∷ 0x54 ∷  -- 10: title T
    0 ∷  -- 12: padding
    0x1b ∷ 13 ∷ 0 ∷  -- 13: first and last line, with a protected submenu at 10 + 13
    2 ∷ 0x31 ∷ 0x32 ∷  -- 16: password 12
    0 ∷  -- 19: padding
    0x95 ∷ 1 ∷ 0x61 ∷  -- 20: text 'a', last
    1 ∷ 0x53 ∷  -- 23: title S
    0x03 ∷  -- 25: first and last line
    0x95 ∷ 1 ∷ 0x63 ∷  -- 26: text 'c', last
    []
