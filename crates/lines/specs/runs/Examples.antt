-- The definitions of a line, evaluated: the printed session's lines and others of each type, then one line for each reason of "?"
use Rattle.std.specs.Prelude.{◌≡◌, refl, [], ◌∷◌, replicate, Some, None}
use Rattle.arith.specs.Bounded.{every}
use Rattle.memory.specs.declared.DeviceAnswer.TheVariants.{Pending, Done, Failed}
use Rattle.lines.specs.Fields.{cut_at}
use Rattle.lines.specs.Lines.{only_number, target_of, answer_word, round_line, kind_of, line_of}
use Rattle.lines.specs.Number.{value_of, number_of}
use Rattle.lines.specs.declared.Line.TheVariants.{Call, Info, Round}
use Rattle.lines.specs.declared.LineCall.TheVariants as Calls

pub readable :
    -- "1 0 4 12"
    (line_of 1 (49 ∷ 32 ∷ 48 ∷ 32 ∷ 52 ∷ 32 ∷ 49 ∷ 50 ∷ []) ≡ Some (Call (Calls.Write (record { area = 0; address = 4; length = 12 }))))
    -- "0 p"
    × (line_of 1 (48 ∷ 32 ∷ 112 ∷ []) ≡ Some (Round Pending Pending Pending Pending))
    -- "1 1 256 4"
    × (line_of 1 (49 ∷ 32 ∷ 49 ∷ 32 ∷ 50 ∷ 53 ∷ 54 ∷ 32 ∷ 52 ∷ []) ≡ Some (Call (Calls.Write (record { area = 1; address = 256; length = 4 }))))
    -- "0 d"
    × (line_of 1 (48 ∷ 32 ∷ 100 ∷ []) ≡ Some (Round Done Pending Pending Pending))
    -- "0 0"
    × (line_of 1 (48 ∷ 32 ∷ 48 ∷ []) ≡ Some (Round (Failed 0) Pending Pending Pending))
    -- "10 0"
    × (line_of 1 (49 ∷ 48 ∷ 32 ∷ 48 ∷ []) ≡ Some (Info 0))
    -- "10 1"
    × (line_of 1 (49 ∷ 48 ∷ 32 ∷ 49 ∷ []) ≡ Some (Info 1))
    -- "9 1"
    × (line_of 1 (57 ∷ 32 ∷ 49 ∷ []) ≡ Some (Call (Calls.Cancel 1)))
    -- "8 0 4 12"
    × (line_of 1 (56 ∷ 32 ∷ 48 ∷ 32 ∷ 52 ∷ 32 ∷ 49 ∷ 50 ∷ []) ≡ Some (Call (Calls.Release (record { area = 0; address = 4; length = 12 }))))
    -- "2 0 3 13"
    × (line_of 1 (50 ∷ 32 ∷ 48 ∷ 32 ∷ 51 ∷ 32 ∷ 49 ∷ 51 ∷ []) ≡ Some (Call (Calls.Read (record { area = 0; address = 3; length = 13 }))))
    -- "3 0 3 13"
    × (line_of 1 (51 ∷ 32 ∷ 48 ∷ 32 ∷ 51 ∷ 32 ∷ 49 ∷ 51 ∷ []) ≡ Some (Call (Calls.Compare (record { area = 0; address = 3; length = 13 }))))
    -- "4 0 0 32"
    × (line_of 1 (52 ∷ 32 ∷ 48 ∷ 32 ∷ 48 ∷ 32 ∷ 51 ∷ 50 ∷ []) ≡ Some (Call (Calls.Erase (record { area = 0; address = 0; length = 32 }))))
    -- "6 0 0 32"
    × (line_of 1 (54 ∷ 32 ∷ 48 ∷ 32 ∷ 48 ∷ 32 ∷ 51 ∷ 50 ∷ []) ≡ Some (Call (Calls.BlankCheck (record { area = 0; address = 0; length = 32 }))))
    -- "7 0 0 32"
    × (line_of 1 (55 ∷ 32 ∷ 48 ∷ 32 ∷ 48 ∷ 32 ∷ 51 ∷ 50 ∷ []) ≡ Some (Call (Calls.Lock (record { area = 0; address = 0; length = 32 }))))
    -- "007 1 00256 4294967295"
    × (line_of 1 (48 ∷ 48 ∷ 55 ∷ 32 ∷ 49 ∷ 32 ∷ 48 ∷ 48 ∷ 50 ∷ 53 ∷ 54 ∷ 32 ∷ 52 ∷ 50 ∷ 57 ∷ 52 ∷ 57 ∷ 54 ∷ 55 ∷ 50 ∷ 57 ∷ 53 ∷ []) ≡ Some (Call (Calls.Lock (record { area = 1; address = 256; length = 4294967295 }))))
    -- "0 p d 4294967295 7"
    × (line_of 4 (48 ∷ 32 ∷ 112 ∷ 32 ∷ 100 ∷ 32 ∷ 52 ∷ 50 ∷ 57 ∷ 52 ∷ 57 ∷ 54 ∷ 55 ∷ 50 ∷ 57 ∷ 53 ∷ 32 ∷ 55 ∷ []) ≡ Some (Round Pending Done (Failed 4294967295) (Failed 7)))
unfolding every cut_at only_number target_of answer_word round_line kind_of line_of value_of number_of
readable = (refl, refl, refl, refl, refl, refl, refl, refl, refl, refl, refl, refl, refl, refl, refl, refl)

pub unreadable :
    -- "": no byte
    (line_of 1 ([]) ≡ None)
    -- "5 0 4 12": a type that is left out
    × (line_of 1 (53 ∷ 32 ∷ 48 ∷ 32 ∷ 52 ∷ 32 ∷ 49 ∷ 50 ∷ []) ≡ None)
    -- "11 0": no type
    × (line_of 1 (49 ∷ 49 ∷ 32 ∷ 48 ∷ []) ≡ None)
    -- "x 0": a word for a type
    × (line_of 1 (120 ∷ 32 ∷ 48 ∷ []) ≡ None)
    -- "1 0 4": a field too few
    × (line_of 1 (49 ∷ 32 ∷ 48 ∷ 32 ∷ 52 ∷ []) ≡ None)
    -- "1 0 4 12 0": a field too many
    × (line_of 1 (49 ∷ 32 ∷ 48 ∷ 32 ∷ 52 ∷ 32 ∷ 49 ∷ 50 ∷ 32 ∷ 48 ∷ []) ≡ None)
    -- "1  0 4 12": two spaces
    × (line_of 1 (49 ∷ 32 ∷ 32 ∷ 48 ∷ 32 ∷ 52 ∷ 32 ∷ 49 ∷ 50 ∷ []) ≡ None)
    -- " 9 0": a space in front
    × (line_of 1 (32 ∷ 57 ∷ 32 ∷ 48 ∷ []) ≡ None)
    -- "9 0 ": a space behind
    × (line_of 1 (57 ∷ 32 ∷ 48 ∷ 32 ∷ []) ≡ None)
    -- "9<tab>0": a tab
    × (line_of 1 (57 ∷ 9 ∷ 48 ∷ []) ≡ None)
    -- "9 0<return>": a carriage return
    × (line_of 1 (57 ∷ 32 ∷ 48 ∷ 13 ∷ []) ≡ None)
    -- "9 +0": a sign
    × (line_of 1 (57 ∷ 32 ∷ 43 ∷ 48 ∷ []) ≡ None)
    -- "9 p": a word for a number
    × (line_of 1 (57 ∷ 32 ∷ 112 ∷ []) ≡ None)
    -- "9 4294967296": a number above the limit
    × (line_of 1 (57 ∷ 32 ∷ 52 ∷ 50 ∷ 57 ∷ 52 ∷ 57 ∷ 54 ∷ 55 ∷ 50 ∷ 57 ∷ 54 ∷ []) ≡ None)
    -- "1 0 18446744073709551620 4": a number above 64 bits
    × (line_of 1 (49 ∷ 32 ∷ 48 ∷ 32 ∷ 49 ∷ 56 ∷ 52 ∷ 52 ∷ 54 ∷ 55 ∷ 52 ∷ 52 ∷ 48 ∷ 55 ∷ 51 ∷ 55 ∷ 48 ∷ 57 ∷ 53 ∷ 53 ∷ 49 ∷ 54 ∷ 50 ∷ 48 ∷ 32 ∷ 52 ∷ []) ≡ None)
    -- "0": no answer
    × (line_of 1 (48 ∷ []) ≡ None)
    -- "0 p p": an answer too many
    × (line_of 1 (48 ∷ 32 ∷ 112 ∷ 32 ∷ 112 ∷ []) ≡ None)
    -- "0 P": another word for an answer
    × (line_of 1 (48 ∷ 32 ∷ 80 ∷ []) ≡ None)
    -- "0 pp": a longer word
    × (line_of 1 (48 ∷ 32 ∷ 112 ∷ 112 ∷ []) ≡ None)
    -- "0 4294967296": bytes above the limit
    × (line_of 1 (48 ∷ 32 ∷ 52 ∷ 50 ∷ 57 ∷ 52 ∷ 57 ∷ 54 ∷ 55 ∷ 50 ∷ 57 ∷ 54 ∷ []) ≡ None)
unfolding every cut_at only_number target_of answer_word round_line kind_of line_of value_of number_of
unreadable = (refl, refl, refl, refl, refl, refl, refl, refl, refl, refl, refl, refl, refl, refl, refl, refl, refl, refl, refl, refl)

-- 4,097 bytes are too long
pub too_long : line_of 1 (57 ∷ 32 ∷ replicate 4095 48) ≡ None
unfolding every cut_at only_number target_of answer_word round_line kind_of line_of value_of number_of
too_long = refl
