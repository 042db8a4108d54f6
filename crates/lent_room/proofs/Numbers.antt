-- Numbers laid one behind another.
use Prim.Native.Nat.{ℕ, suc, ◌+◌, ◌≤◌, ◌<◌}
use native.Mathlib.Numerals.{add-one}
use mathlib.Core.Path.{◌≡◌, sym, ap, ◌∙◌}
use mathlib.Core.List.{List, [], ◌∷◌, ◌++◌, append-nil, append_assoc}
use lib.ListN.{length, take, drop, get_or, take-append-drop}
use lib.Seq.{take_all, take-suc, drop-cons}
use Rattle.paper.specs.Index.{little_end, in_bytes}
use Rattle.paper.proofs.Lists.{gather_append}
use Rattle.std.specs.Prelude.{Ok, Err}
use Rattle.lent_room.specs.Room.{Lays}
use Rattle.lent_room.specs.declared.Stopped.{Stopped}
use Rattle.lent_room.specs.declared.Pass.{Pass}
use Rattle.lent_room.proofs.Passes.{lays_as, lays_next, lays_off}

module _ (l : List ℕ) (i : ℕ) where
  pub all_numbers : length l ≤ i → in_bytes (take i l) ≡ in_bytes l
  all_numbers h = ap in_bytes (take_all i l h)

  module _ (h : i < length l) where
    pub one_number : in_bytes (take i l) ++ little_end (get_or l i 0) ≡ in_bytes (take (i + 1) l)
    one_number =
        ap (◌++◌ (in_bytes (take i l))) (sym (append-nil (little_end (get_or l i 0))))
        ∙ sym (gather_append little_end (take i l) (get_or l i 0 ∷ []))
        ∙ ap in_bytes (sym (take-suc l i 0 h) ∙ ap (λ (k : ℕ). take k l) (sym (add-one i)))

    rest_numbers : in_bytes (take i l) ++ little_end (get_or l i 0) ++ in_bytes (drop (suc i) l) ≡ in_bytes l
    rest_numbers =
        append_assoc (in_bytes (take i l)) (little_end (get_or l i 0)) (in_bytes (drop (suc i) l))
        ∙ sym (gather_append little_end (take i l) (get_or l i 0 ∷ drop (suc i) l))
        ∙ ap in_bytes (ap (◌++◌ (take i l)) (sym (drop-cons l i 0 h)) ∙ take-append-drop i l)

    module _ {given room now after : List ℕ} {at m : ℕ} {p : Pass} (was : Lays given at (in_bytes (take i l)) room p (Ok m) now) where
      pub numbers_on : {end : ℕ} → Lays given m (little_end (get_or l i 0)) now p (Ok end) after → Lays given at (in_bytes (take (i + 1) l)) room p (Ok end) after
      numbers_on one = lays_as (lays_next was one) one_number

      pub numbers_off : {e : Stopped} → Lays given m (little_end (get_or l i 0)) now p (Err e) after → Lays given at (in_bytes l) room p (Err e) after
      numbers_off one = lays_as (lays_off (in_bytes (drop (suc i) l)) (lays_next was one)) rest_numbers
