-- A text that was put at the front.
use Prim.Native.Nat.{ℕ, ◌+◌, ◌≤◌}
use native.Mathlib.Omega.{arith}
use mathlib.Core.Path.{◌≡◌, sym, ap, ◌∙◌}
use mathlib.Core.List.{List}
use lib.ListN.{length, take}
use lib.Seq.{length-take-le, length-sets}
use Rattle.lent_room.specs.Room.{Puts}
use Rattle.lent_room.proofs.Laws.{sets_take}
use Rattle.program_page.specs.Pages.{Shows}

pub shows_text : (x : List ℕ) {size : ℕ} {room after : List ℕ} → Puts 0 x room size after → size ≤ 161 → 161 ≤ length room → Shows x size after
shows_text x {size} {room} {after} p h l =
    let e : size ≡ 0 + length x = p.ends in
    let k : size ≤ length after = omega (arith, h, l, ap length p.is, length-sets room 0 x) in
    record {
      fits = h;
      counts = (k, sym (length-take-le size after k));
      holds = ap (λ (n : ℕ). take n after) e ∙ ap (take (0 + length x)) p.is ∙ sets_take x room 0 (omega (arith, e, h, l));
    }
