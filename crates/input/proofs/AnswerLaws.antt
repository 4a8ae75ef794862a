-- What an answer says of the reading.
-- Assumes nothing.
use mathlib.Core.Path.{◌≡◌, refl, ap}
use mathlib.Core.Bool.{Bool, true, false, cond}
use mathlib.Core.List.{List}
use Rattle.std.specs.Prelude.{Ok, Err}
use lib.Dec.{eqb}
use Prim.Native.Nat.{ℕ}
use native.Mathlib.Omega.{arith}
use borrow.Author.Tests.{eqb-true}
use lib.ListN.{length}
use Rattle.input.specs.declared.reading.Parsed.{Parsed}
use Rattle.input.specs.declared.reading.Unread.{Unread}
use Rattle.input.specs.Input.{Reading, lines, room_for, read_input, read_into}
use Rattle.input.specs.Fault.{fault_in, parsed_of}

-- a schedule with room for all entries
pub read-whole : (schedule input : List ℕ) → length schedule ≡ 8192 → read_into schedule input ≡ read_input input
read-whole schedule input h = let e : room_for (length schedule) ≡ 4096 = omega arith in rw e

whole : Reading → Parsed
whole r = record { size = r.size; entries = r.entries }

stop : List ℕ → Reading → Unread
stop input r = record { line = r.unread; fault = fault_in r.unread (lines input); before = record { size = r.size; entries = r.entries } }

-- all was read
pub answer-ok : (input : List ℕ) (r : Reading) (p : Parsed) → Ok p ≡ parsed_of input r → (r.unread ≡ 0) × (p.size ≡ r.size) × (p.entries ≡ r.entries)
unfolding whole stop
answer-ok input r p = go (eqb r.unread 0) refl
  where
    go : (b : Bool) → eqb r.unread 0 ≡ b → Ok p ≡ cond b (Ok (whole r)) (Err (stop input r))
        → (r.unread ≡ 0) × (p.size ≡ r.size) × (p.entries ≡ r.entries)
    go true e f =
        let g : ◌≡◌ {A = Parsed} p (whole r) = cc in
        (eqb-true r.unread 0 e, ap (λ (q : Parsed). q.size) g, ap (λ (q : Parsed). q.entries) g)
    go false e f = cc

-- a line could not be read
pub record Stopped (input : List ℕ) (r : Reading) (u : Unread) : Type 0 where
  pub unread : eqb r.unread 0 ≡ false
  pub line : u.line ≡ r.unread
  pub fault : u.fault ≡ fault_in u.line (lines input)
  pub size : u.before.size ≡ r.size
  pub entries : u.before.entries ≡ r.entries

pub answer-err : (input : List ℕ) (r : Reading) (u : Unread) → Err u ≡ parsed_of input r → Stopped input r u
unfolding whole stop
answer-err input r u = go (eqb r.unread 0) refl
  where
    go : (b : Bool) → eqb r.unread 0 ≡ b → Err u ≡ cond b (Ok (whole r)) (Err (stop input r)) → Stopped input r u
    go true e f = cc
    go false e f =
        let g : ◌≡◌ {A = Unread} u (stop input r) = cc in
        record {
          unread = e;
          line = ap (λ (v : Unread). v.line) g;
          fault = rw g;
          size = ap (λ (v : Unread). v.before.size) g;
          entries = ap (λ (v : Unread). v.before.entries) g;
        }
