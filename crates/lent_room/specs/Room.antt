-- Content in lent room. `sets room at x` is the room with x stored from `at` on; before and behind x it is as it was.
use Rattle.std.specs.Prelude.{ℕ, ◌+◌, ◌-◌, ◌≤◌, ◌<◌, ◌≡◌, Result, Ok, Err, List, ◌++◌, length, drop}
use Rattle.std.proofs.lemmas.List.Edits.{sets}
use Rattle.paper.specs.Bytes.{raw}
use Rattle.paper.specs.Index.{agree}
use Rattle.lent_room.specs.declared.Stopped.{Stopped}
use Rattle.lent_room.specs.declared.Pass.{Pass}
use Rattle.lent_room.specs.declared.Pass.TheVariants.{Measure, Write, Compare}

-- how a pass ends: the place from which it goes on, or where it stopped
abbrev pub Laid : Type 0
Laid = Result ℕ Stopped

abbrev pub stopped : ℕ → Laid
stopped k = Err (record { at = k })

-- whether so many bytes are in the room from a place on: the place behind them, or the room's end
pub data InRoom (size at room : ℕ) : Laid → Type 0 where
  fits : size ≤ room - at → InRoom size at room (Ok (at + size))
  short : room - at < size → InRoom size at room (stopped room)

-- whether the given bytes go on with x from a place on: the place behind it, or the first where they don't
pub data Agrees (x : List ℕ) (at : ℕ) (given : List ℕ) : Laid → Type 0 where
  same : agree x (drop at given) ≡ length x → Agrees x at given (Ok (at + length x))
  differs : agree x (drop at given) < length x → Agrees x at given (stopped (at + agree x (drop at given)))

-- what a pass makes of the content x at a place: how it ends, and the room afterwards. A pass that writes was measured before, so what it
-- leaves in a room that is too short isn't said.
pub data Lays (given : List ℕ) (at : ℕ) (x room : List ℕ) : Pass → Laid → List ℕ → Type 0 where
  measured : {r : Laid} → InRoom (length x) at (length room) r → Lays given at x room Measure r room
  written : length x ≤ length room - at → Lays given at x room Write (Ok (at + length x)) (sets room at x)
  short : {after : List ℕ} → length room - at < length x → length after ≡ length room → Lays given at x room Write (stopped (length room)) after
  compared : {r : Laid} → Agrees x at given r → Lays given at x room Compare r room

-- whatever content x was laid before, from whatever place, y is laid behind it
pub record LaysMore (given y : List ℕ) (p : Pass) (was r : Laid) (room after : List ℕ) : Type 0 where
  pub kept : length after ≡ length room
  pub says : (at : ℕ) (x before : List ℕ) → Lays given at x before p was room → Lays given at (x ++ y) before p r after

-- the same of the text as read that the bytes are written from; the room keeps its length whatever they are
pub record LaysRead (given : List ℕ) (at : ℕ) (text room : List ℕ) (p : Pass) (r : Laid) (after : List ℕ) : Type 0 where
  pub kept : length after ≡ length room
  pub says : (v : List ℕ) → text ≡ raw v → Lays given at v room p r after

-- x is in the room at a place and ends there
pub record Puts (at : ℕ) (x room : List ℕ) (end : ℕ) (after : List ℕ) : Type 0 where
  pub ends : end ≡ at + length x
  pub is : after ≡ sets room at x
