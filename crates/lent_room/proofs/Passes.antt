-- What a pass makes of contents, one behind another.
use Prim.Native.Nat.{ℕ, ◌+◌, ◌-◌, ◌≤◌}
use native.Mathlib.Omega.{arith}
use mathlib.Core.Path.{◌≡◌, refl, sym, ap, ◌∙◌, subst}
use mathlib.Core.List.{List, [], ◌++◌, append-nil, append_assoc}
use lib.ListN.{length, drop, length-append}
use lib.Seq.{sets, length-sets, drop-drop}
use Rattle.paper.specs.Index.{agree}
use Rattle.std.specs.Prelude.{Ok, Err}
use Rattle.lent_room.specs.Room.{Laid, stopped, InRoom, fits, Agrees, same, differs, Lays, LaysMore, Puts}
use Rattle.lent_room.specs.declared.Stopped.{Stopped}
use Rattle.lent_room.specs.declared.Pass.{Pass}
use Rattle.lent_room.specs.declared.Pass.TheVariants.{Measure, Write, Compare}
use Rattle.lent_room.proofs.Laws.{sets_append, agree_on, agree_off}

module _ {given room x : List ℕ} {at : ℕ} where
  -- no pass changes the room's length
  pub lays_kept : {p : Pass} {r : Laid} {after : List ℕ} → Lays given at x room p r after → length after ≡ length room
  lays_kept (Lays.measured f) = refl
  lays_kept (Lays.written h) = length-sets room at x
  lays_kept (Lays.short h k) = k
  lays_kept (Lays.compared f) = refl

  -- what fits is written
  pub lays_ok : {r : Laid} {after : List ℕ} → Lays given at x room Write r after → length x ≤ length room - at → r ≡ Ok (at + length x)
  lays_ok (Lays.written h) k = refl
  lays_ok (Lays.short h l) k = absurd (omega (arith, h, k))

  -- what is written is there
  pub lays_written : {end : ℕ} {after : List ℕ} → Lays given at x room Write (Ok end) after → Puts at x room end after
  lays_written (Lays.written h) = record { ends = refl; is = refl }

-- what is compared, and the room as it was
pub lays_compared : {given room x after : List ℕ} {at : ℕ} {r : Laid} → Lays given at x room Compare r after → Agrees x at given r × (after ≡ room)
lays_compared (Lays.compared f) = (f, refl)

pub agrees_end : {given x : List ℕ} {at end : ℕ} → Agrees x at given (Ok end) → end ≡ at + length x
agrees_end (same h) = refl

-- the same content
pub lays_as : {given room x y after : List ℕ} {at : ℕ} {p : Pass} {r : Laid} → Lays given at x room p r after → x ≡ y → Lays given at y room p r after
lays_as {given} {room} {after = after} {at} {p} {r} f e = subst (λ (z : List ℕ). Lays given at z room p r after) e f

-- nothing
pub lays_none : {given room : List ℕ} {at : ℕ} (p : Pass) → Lays given at [] room p (Ok at) room
lays_none {given} {room} {at} Measure = subst (λ (e : ℕ). Lays given at [] room Measure (Ok e) room) (omega arith) (Lays.measured (fits (omega arith)))
lays_none {given} {room} {at} Write = subst (λ (e : ℕ). Lays given at [] room Write (Ok e) room) (omega arith) (Lays.written (omega arith))
lays_none {given} {room} {at} Compare = subst (λ (e : ℕ). Lays given at [] room Compare (Ok e) room) (omega arith) (Lays.compared (same refl))

-- ---- x, and then y

fits_next : {a b at room m : ℕ} {r : Laid} → InRoom a at room (Ok m) → InRoom b m room r → InRoom (a + b) at room r
fits_next {a} {b} {at} {room} (fits h) (fits k) = subst (λ (e : ℕ). InRoom (a + b) at room (Ok e)) (omega arith) (fits (omega (arith, h, k)))
fits_next (fits h) (InRoom.short k) = InRoom.short (omega (arith, h, k))

agrees_next : {given x y : List ℕ} {at m : ℕ} {r : Laid} → Agrees x at given (Ok m) → Agrees y m given r → Agrees (x ++ y) at given r
agrees_next {given} {x} {y} {at} (same e) (same f) =
    let l = length-append x y in
    let g = agree_on x y (drop at given) e in
    let d = ap (agree y) (drop-drop (length x) at given) in
    subst (λ (k : ℕ). Agrees (x ++ y) at given (Ok k)) (omega (arith, l)) (same (omega (arith, l, g, d, f)))
agrees_next {given} {x} {y} {at} (same e) (differs f) =
    let l = length-append x y in
    let g = agree_on x y (drop at given) e in
    let d = ap (agree y) (drop-drop (length x) at given) in
    subst (λ (k : ℕ). Agrees (x ++ y) at given (stopped k)) (omega (arith, g, d)) (differs (omega (arith, l, g, d, f)))

module _ {given room x y : List ℕ} {at : ℕ} where
  pub lays_next : {p : Pass} {r : Laid} {m : ℕ} {mid after : List ℕ} → Lays given at x room p (Ok m) mid → Lays given m y mid p r after
      → Lays given at (x ++ y) room p r after
  lays_next {r = r} (Lays.measured f) (Lays.measured g) =
      Lays.measured (subst (λ (n : ℕ). InRoom n at (length room) r) (sym (length-append x y)) (fits_next f g))
  lays_next (Lays.written h) (Lays.written k) =
      let l = length-append x y in
      rw (sets_append x y room at)
      (subst (λ (e : ℕ). Lays given at (x ++ y) room Write (Ok e) (sets room at (x ++ y))) (omega (arith, l)) (Lays.written (omega (arith, l, h, k, length-sets room at x))))
  lays_next {after = after} (Lays.written h) (Lays.short k e) =
      let z = length-sets room at x in
      subst (λ (n : ℕ). Lays given at (x ++ y) room Write (stopped n) after) (sym z) (Lays.short (omega (arith, length-append x y, h, k, z)) (e ∙ z))
  lays_next (Lays.compared f) (Lays.compared g) = Lays.compared (agrees_next f g)

-- the pass stopped in x
pub lays_off : {given room x : List ℕ} {at : ℕ} (y : List ℕ) {p : Pass} {e : Stopped} {after : List ℕ} → Lays given at x room p (Err e) after
    → Lays given at (x ++ y) room p (Err e) after
lays_off {x = x} y (Lays.measured (InRoom.short h)) = Lays.measured (InRoom.short (omega (arith, length-append x y, h)))
lays_off {x = x} y (Lays.short h k) = Lays.short (omega (arith, length-append x y, h)) k
lays_off {given} {room} {x} {at} y (Lays.compared (differs h)) =
    let z = agree_off x y (drop at given) h in
    subst (λ (n : ℕ). Lays given at (x ++ y) room Compare (stopped n) room) (omega (arith, z)) (Lays.compared (differs (omega (arith, z, length-append x y, h))))

-- ---- behind whatever was laid before

pub more_on : {given y : List ℕ} {p : Pass} {m : ℕ} {r : Laid} {room after : List ℕ} → Lays given m y room p r after → LaysMore given y p (Ok m) r room after
more_on f = record { kept = lays_kept f; says = λ at x before g. lays_next g f }

pub more_off : {given y : List ℕ} {p : Pass} {e : Stopped} {room : List ℕ} → LaysMore given y p (Err e) (Err e) room room
more_off {y = y} = record { kept = refl; says = λ at x before g. lays_off y g }

-- nothing more
pub more_none : {given : List ℕ} {p : Pass} {was : Laid} {room : List ℕ} → LaysMore given [] p was was room room
more_none = record { kept = refl; says = λ at x before g. lays_as g (sym (append-nil x)) }

-- y, and then z
pub more_then : {given y z : List ℕ} {p : Pass} {was mid r : Laid} {room now after : List ℕ} → LaysMore given y p was mid room now → LaysMore given z p mid r now after
    → LaysMore given (y ++ z) p was r room after
more_then {y = y} {z} f g =
    record { kept = g.kept ∙ f.kept; says = λ at x before h. lays_as (g.says at (x ++ y) before (f.says at x before h)) (append_assoc x y z) }

-- ---- bytes, by the pass that is asked

pub fits_inside : {size at room end : ℕ} → InRoom size at room (Ok end) → size ≤ room - at
fits_inside (fits h) = h

module _ {given x room : List ℕ} {at : ℕ} {p : Pass} where
  pub pass_compare : {r : Laid} → p ≡ Compare → Agrees x at given r → Lays given at x room p r room
  pass_compare {r} e f = subst (λ (q : Pass). Lays given at x room q r room) (sym e) (Lays.compared f)

  pub pass_measure : {r : Laid} → p ≡ Measure → InRoom (length x) at (length room) r → Lays given at x room p r room
  pass_measure {r} e f = subst (λ (q : Pass). Lays given at x room q r room) (sym e) (Lays.measured f)

  pub pass_write : {end : ℕ} {after : List ℕ} → p ≡ Write → InRoom (length x) at (length room) (Ok end) → after ≡ sets room at x → Lays given at x room p (Ok end) after
  pass_write {end} {after} e f s = subst (λ (q : Pass). Lays given at x room q (Ok end) after) (sym e) (subst (Lays given at x room Write (Ok end)) (sym s) (go f))
    where
      go : {end : ℕ} → InRoom (length x) at (length room) (Ok end) → Lays given at x room Write (Ok end) (sets room at x)
      go (fits h) = Lays.written h

  pub pass_short : {e : Stopped} → p ≡ Write → InRoom (length x) at (length room) (Err e) → Lays given at x room p (Err e) room
  pass_short {e} q f = subst (λ (q : Pass). Lays given at x room q (Err e) room) (sym q) (go f)
    where
      go : {e : Stopped} → InRoom (length x) at (length room) (Err e) → Lays given at x room Write (Err e) room
      go (InRoom.short h) = Lays.short h refl
