-- The kinds of an entry as values, and the bytes of a schedule that stand for them.
-- Assumes nothing.
use Rattle.std.specs.Prelude.{ℕ, List, codes, Result, Ok, Err, ◌==◌, if◌then◌else◌}
use Rattle.lists.specs.declared.refusal.Refusal.{Refusal}
use Rattle.lists.specs.declared.refusal.Refusal.TheVariants.{UnknownKind}
use Rattle.plant.specs.declared.kind.Kind.{Kind}
use Rattle.plant.specs.declared.kind.Kind.TheVariants.{Turn, LateTurn, Crash}
use Rattle.plant.specs.Turn.{kind_turn, kind_late, kind_crash}

-- the byte of a kind
abbrev pub kind_byte : Kind → ℕ
kind_byte Turn = kind_turn
kind_byte LateTurn = kind_late
kind_byte Crash = kind_crash

-- the kind of a byte; refusal 8: the kind is not 1, 2 or 3
abbrev pub kind_of : ℕ → Result Kind Refusal
kind_of byte =
    if byte == kind_turn then Ok Turn
    else (if byte == kind_late then Ok LateTurn
    else (if byte == kind_crash then Ok Crash
    else Err UnknownKind))

-- what it says to people
abbrev pub kind_words : Kind → List ℕ
kind_words Turn = codes "turn"
kind_words LateTurn = codes "turn whose reply comes late"
kind_words Crash = codes "crash"
