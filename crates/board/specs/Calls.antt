-- The calls of a board, by numbers and bytes that come from outside: what is refused, and what each leaves and answers. w is the wiring, n
-- the size, i the board's own number, l the bytes of its line.
-- Assumes nothing.
use Rattle.std.specs.Prelude.{ℕ, Bool, not, ◌&&◌, List, length, Option, Some, None, Result, Ok, ◌==◌, slice_index}
use Rattle.lists.specs.declared.refusal.Refusal.{Refusal}
use Rattle.lists.specs.declared.refusal.Refusal.TheVariants.{SizeOutOfRange, LineLength, LineRule, NotLive, PassFinished, NoSuchStation}
use Rattle.lists.specs.Refusal.{Check, ensure, ◌and◌, unless_refused}
use Rattle.lists.specs.Search.{list_of}
use Rattle.table.specs.Sizes.{is_size}
use Rattle.table.specs.Table.{stride, finished_column}
use Rattle.table.specs.Line.{row_of, is_live}
use Rattle.table.specs.Rules.{head_rules_by, row_rule_by, station_check, length_check}
use Rattle.table.specs.Fresh.{fresh_byte}
use Rattle.table.specs.declared.wiring.Wiring.{Wiring}
use Rattle.board.specs.Board.{suspicion_of, tested, next_station, turn_of, outcome, left_told, joined, round_closed}
use Rattle.board.specs.Packed.{packed_length, pack, heard}

-- Rule Own line, valid: all line rules, of the line of board i
unfoldable pub line_rules : Wiring → ℕ → ℕ → List ℕ → Bool
line_rules w n i l = head_rules_by w n i (slice_index l) && row_rule_by n i (suspicion_of l)

-- refusals 1, 9 and 25: n is not 2 to 64; the board's number is n or more; the line has not n + 6 bytes
unfoldable pub place_check : ℕ → ℕ → ℕ → Check
place_check n i len =
    ensure (is_size n) SizeOutOfRange and station_check n i and ensure (len == stride n) LineLength

-- then 3: the line breaks a line rule
unfoldable pub line_check : Wiring → ℕ → ℕ → List ℕ → Check
line_check w n i l = place_check n i (length l) and ensure (line_rules w n i l) LineRule

-- then 10: the board is not live
unfoldable pub live_check : Wiring → ℕ → ℕ → List ℕ → Check
live_check w n i l = line_check w n i l and ensure (is_live l) NotLive

-- then 11, of a turn: it has finished its pass
unfoldable pub turn_check : Wiring → ℕ → ℕ → List ℕ → Check
turn_check w n i l = live_check w n i l and ensure (not (slice_index l finished_column == 1)) PassFinished

-- and 13: a packed row has another length
unfoldable pub replied_check : Wiring → ℕ → ℕ → List ℕ → ℕ → Check
replied_check w n i l len = turn_check w n i l and length_check (packed_length n) len

-- Rule Board, fresh: a line of a fresh table
abbrev pub fresh_after : ℕ → ℕ → List ℕ → List ℕ
fresh_after n i l = unless_refused (place_check n i (length l)) l (list_of (fresh_byte n) (stride n))

-- Rule Board, row: what the board answers to a test, or sends as an exchange: its row, packed. Refusals to 10; 13: there is not room for just that
unfoldable pub row_check : Wiring → ℕ → ℕ → List ℕ → ℕ → Check
row_check w n i l room = live_check w n i l and length_check (packed_length n) room

abbrev pub row_sent : Wiring → ℕ → ℕ → List ℕ → List ℕ → List ℕ
row_sent w n i l out = unless_refused (row_check w n i l (length out)) out (pack n (row_of n l))

-- Rule Board, next: whom the board tests next; nobody where its pass is at its end
abbrev pub next_answer : Wiring → ℕ → ℕ → List ℕ → Result (Option ℕ) Refusal
next_answer w n i l = turn_check w n i l and Ok (next_station w n i l)

-- Rule Board, replied: a turn with a reply, a packed row from the board tested
abbrev pub row_in : Wiring → ℕ → ℕ → List ℕ → List ℕ → Option (List ℕ)
row_in w n i l packed = Some (heard n (tested w n i l) packed)

abbrev pub replied_answer : Wiring → ℕ → ℕ → List ℕ → List ℕ → Result ℕ Refusal
replied_answer w n i l packed = replied_check w n i l (length packed) and Ok (outcome w n i l (row_in w n i l packed))

abbrev pub replied_after : Wiring → ℕ → ℕ → List ℕ → List ℕ → List ℕ
replied_after w n i l packed = unless_refused (replied_check w n i l (length packed)) l (turn_of w n i l (row_in w n i l packed))

-- Rule Board, not replied: a turn without
abbrev pub not_replied_answer : Wiring → ℕ → ℕ → List ℕ → Result ℕ Refusal
not_replied_answer w n i l = turn_check w n i l and Ok (outcome w n i l None)

abbrev pub not_replied_after : Wiring → ℕ → ℕ → List ℕ → List ℕ
not_replied_after w n i l = unless_refused (turn_check w n i l) l (turn_of w n i l None)

-- what is sent by board b: refusals to 10, then 9: there is no such board, or it is this one
unfoldable pub sent_check : Wiring → ℕ → ℕ → List ℕ → ℕ → Check
sent_check w n i l b = live_check w n i l and station_check n b and ensure (not (b == i)) NoSuchStation

-- Rule Board, told: board b tells this one to leave
abbrev pub told_after : Wiring → ℕ → ℕ → List ℕ → ℕ → List ℕ
told_after w n i l b = unless_refused (sent_check w n i l b) l (left_told l b)

-- Rule Board, exchanged: board b sends its row; and 13: it has another length
unfoldable pub exchanged_check : Wiring → ℕ → ℕ → List ℕ → ℕ → ℕ → Check
exchanged_check w n i l b len = sent_check w n i l b and length_check (packed_length n) len

abbrev pub exchanged_after : Wiring → ℕ → ℕ → List ℕ → ℕ → List ℕ → List ℕ
exchanged_after w n i l b packed = unless_refused (exchanged_check w n i l b (length packed)) l (joined n i l (heard n b packed))

-- Rule Board, round closed
abbrev pub closed_after : Wiring → ℕ → ℕ → List ℕ → List ℕ
closed_after w n i l = unless_refused (line_check w n i l) l (round_closed l)
