-- Byte 0, the status, as a value: 0 live, 1 crashed, 2 left because told, 3 left because alone.
-- Assumes nothing.
use Rattle.std.specs.Prelude.{ℕ, List, codes, Result, Ok, Err, if◌then◌else◌, ◌==◌}
use Rattle.table.specs.Table.{status_crashed, status_told, status_alone}
use Rattle.table.specs.declared.status.Status.{Status}
use Rattle.table.specs.declared.status.Status.TheVariants.{Live, Crashed, LeftTold, LeftAlone}
use Rattle.lists.specs.declared.refusal.Refusal.{Refusal}
use Rattle.lists.specs.declared.refusal.Refusal.TheVariants.{LineRule}

-- its byte
abbrev pub status_byte : Status → ℕ
status_byte Live = 0
status_byte Crashed = status_crashed
status_byte LeftTold = status_told
status_byte LeftAlone = status_alone

-- the status that a byte stands for; refusal 3 where there is none
abbrev pub status_of : ℕ → Result Status Refusal
status_of byte =
    if byte == 0 then Ok Live
    else (if byte == status_crashed then Ok Crashed
    else (if byte == status_told then Ok LeftTold
    else (if byte == status_alone then Ok LeftAlone
    else Err LineRule)))

-- what it says to people
abbrev pub status_words : Status → List ℕ
status_words Live = codes "live"
status_words Crashed = codes "crashed"
status_words LeftTold = codes "left because told"
status_words LeftAlone = codes "left because alone"
