-- A board's number is handed on as a byte too, as in `Narrow`: each check of a board's calls refuses every number from 255 on for one reason.
-- Assumes nothing.
use mathlib.Core.Path.{◌≡◌, refl, ◌∙◌}
use mathlib.Core.Bool.{true}
use mathlib.Core.List.{List}
use Prim.Native.Nat.{ℕ, min}
use Rattle.std.specs.Prelude.{Result, Ok, Err}
use Rattle.std.specs.Result.{result_map_both, result_unwrap_or}
use lib.ListN.{length}
use Rattle.lists.specs.declared.refusal.Refusal.{Refusal}
use Rattle.lists.specs.declared.refusal.Refusal.TheVariants.{SizeOutOfRange}
use Rattle.lists.specs.Refusal.{ensure, number_of_result}
use Rattle.lists.proofs.RefusalLaws.{and_ok, ensure_ok}
use Rattle.table.specs.Sizes.{is_size}
use Rattle.table.specs.declared.wiring.Wiring.{Wiring}
use Rattle.station.specs.declared.outcome.Outcome.{Outcome}
use Rattle.station.specs.Outcome.{outcome_byte}
use Rattle.board.specs.Board.{left_told, joined}
use Rattle.board.specs.Packed.{heard}
use Rattle.board.specs.Calls.{place_check, line_check, live_check, turn_check, replied_check, row_check, sent_check, exchanged_check}
use Rattle.board.specs.Calls.{next_answer, replied_answer, not_replied_answer}
use Rattle.board.specs.Calls.{fresh_after, row_sent, replied_after, not_replied_after, told_after, exchanged_after, closed_after}
use Rattle.vcube.proofs.Narrow.{Narrow, Far, behind, before, checked, answered, left, station_far}

place_size : (n i len : ℕ) → place_check n i len ≡ Ok tt → is_size n ≡ true
unfolding place_check
place_size n i len e = ensure_ok _ _ tt (and_ok _ _ tt e).0

module _ (w : Wiring) (n : ℕ) where
  place_far : (len : ℕ) → Far (λ i. place_check n i len)
  unfolding place_check
  place_far len =
      behind (ensure (is_size n) SizeOutOfRange) _
      (λ z. before _ _ (station_far n (ensure_ok _ _ tt z)))

  line_far : (l : List ℕ) → Far (λ i. line_check w n i l)
  unfolding line_check
  line_far l = before _ _ (place_far (length l))

  live_far : (l : List ℕ) → Far (λ i. live_check w n i l)
  unfolding live_check
  live_far l = before _ _ (line_far l)

  row_far : (l : List ℕ) (room : ℕ) → Far (λ i. row_check w n i l room)
  unfolding row_check
  row_far l room = before _ _ (live_far l)

  turn_far : (l : List ℕ) → Far (λ i. turn_check w n i l)
  unfolding turn_check
  turn_far l = before _ _ (live_far l)

  replied_far : (l : List ℕ) (len : ℕ) → Far (λ i. replied_check w n i l len)
  unfolding replied_check
  replied_far l len = before _ _ (turn_far l)

  -- of a message from board b: by the own number, and by b
  sent_far : (l : List ℕ) (b : ℕ) → Far (λ i. sent_check w n i l b)
  unfolding sent_check
  sent_far l b = before _ _ (live_far l)

  sent_far_by : (i : ℕ) (l : List ℕ) → Far (λ b. sent_check w n i l b)
  unfolding sent_check live_check line_check
  sent_far_by i l =
      behind (live_check w n i l) _
      (λ e. before _ _ (station_far n (place_size n i (length l) (and_ok _ _ tt (and_ok _ _ tt e).0).0)))

  exchanged_far : (l : List ℕ) (b len : ℕ) → Far (λ i. exchanged_check w n i l b len)
  unfolding exchanged_check
  exchanged_far l b len = before _ _ (sent_far l b)

  exchanged_far_by : (i : ℕ) (l : List ℕ) (len : ℕ) → Far (λ b. exchanged_check w n i l b len)
  unfolding exchanged_check
  exchanged_far_by i l len = before _ _ (sent_far_by i l)

  -- the calls, in the header's order
  pub place_narrow : (len : ℕ) → Narrow (λ i. place_check n i len)
  place_narrow len = checked _ (place_far len)

  pub fresh_narrow : (l : List ℕ) → Narrow (λ i. fresh_after n i l)
  fresh_narrow l = left _ (place_far (length l)) l _

  pub next_narrow : (l : List ℕ) → Narrow (λ i. next_answer w n i l)
  next_narrow l = answered _ (turn_far l) _

  pub row_check_narrow : (l : List ℕ) (room : ℕ) → Narrow (λ i. row_check w n i l room)
  row_check_narrow l room = checked _ (row_far l room)

  pub row_sent_narrow : (l out : List ℕ) → Narrow (λ i. row_sent w n i l out)
  row_sent_narrow l out = left _ (row_far l (length out)) out _

  pub replied_narrow : (l packed : List ℕ) → Narrow (λ i. replied_answer w n i l packed)
  replied_narrow l packed = answered _ (replied_far l (length packed)) _

  pub replied_after_narrow : (l packed : List ℕ) → Narrow (λ i. replied_after w n i l packed)
  replied_after_narrow l packed = left _ (replied_far l (length packed)) l _

  pub not_replied_narrow : (l : List ℕ) → Narrow (λ i. not_replied_answer w n i l)
  not_replied_narrow l = answered _ (turn_far l) _

  pub not_replied_after_narrow : (l : List ℕ) → Narrow (λ i. not_replied_after w n i l)
  not_replied_after_narrow l = left _ (turn_far l) l _

  pub sent_narrow : (l : List ℕ) (i b i' b' : ℕ) → i' ≡ min i 255 → b' ≡ min b 255 → sent_check w n i' l b' ≡ sent_check w n i l b
  sent_narrow l i b i' b' e f = checked _ (sent_far l b') i i' e ∙ checked _ (sent_far_by i l) b b' f

  pub told_narrow : (l : List ℕ) (i b i' b' : ℕ) → i' ≡ min i 255 → b' ≡ min b 255 → told_after w n i' l b' ≡ told_after w n i l b
  told_narrow l i b i' b' e f = left _ (sent_far l b') l (λ i. left_told l b') i i' e ∙ left _ (sent_far_by i l) l (left_told l) b b' f

  pub exchanged_narrow : (l : List ℕ) (len i b i' b' : ℕ) → i' ≡ min i 255 → b' ≡ min b 255
      → exchanged_check w n i' l b' len ≡ exchanged_check w n i l b len
  exchanged_narrow l len i b i' b' e f = checked _ (exchanged_far l b' len) i i' e ∙ checked _ (exchanged_far_by i l len) b b' f

  pub exchanged_after_narrow : (l packed : List ℕ) (i b i' b' : ℕ) → i' ≡ min i 255 → b' ≡ min b 255
      → exchanged_after w n i' l b' packed ≡ exchanged_after w n i l b packed
  exchanged_after_narrow l packed i b i' b' e f =
      left _ (exchanged_far l b' (length packed)) l (λ i. joined n i l (heard n b' packed)) i i' e
      ∙ left _ (exchanged_far_by i l (length packed)) l (λ b. joined n i l (heard n b packed)) b b' f

  pub line_narrow : (l : List ℕ) → Narrow (λ i. line_check w n i l)
  line_narrow l = checked _ (line_far l)

  pub closed_narrow : (l : List ℕ) → Narrow (λ i. closed_after w n i l)
  closed_narrow l = left _ (line_far l) l _

-- the number of a turn's answer, and what is written of it: the outcome's number, that of a finished pass where it is refused
pub turn_number : (answer : Result Outcome Refusal) → number_of_result answer ≡ number_of_result (result_map_both outcome_byte (λ r. r) answer)
turn_number (Ok o) = refl
turn_number (Err r) = refl

pub turn_outcome : (answer : Result Outcome Refusal)
    → outcome_byte (result_unwrap_or answer Outcome.PassFinished) ≡ result_unwrap_or (result_map_both outcome_byte (λ r. r) answer) 0
turn_outcome (Ok o) = refl
turn_outcome (Err r) = refl

pub ruleset outcome_laws = (turn_number, turn_outcome)

pub ruleset not_replied_laws = (not_replied_narrow, not_replied_after_narrow)

pub ruleset exchanged_laws = (exchanged_narrow, exchanged_after_narrow)
