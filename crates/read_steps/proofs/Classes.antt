-- The table of the classes of bytes is right where it passes two tests over all its entries, which antt computes.
use Prim.Native.Nat.{ℕ, ◌<◌}
use mathlib.Core.Path.{◌≡◌}
use mathlib.Core.Bool.{Bool, true, false}
use mathlib.Core.List.{List}
use lib.ListN.{get_or}
use lib.Dec.{leb}
use Rattle.paper.proofs.Tables.{Test, at_each}
use Rattle.read_steps.specs.Texts.{is_plain, class_in, ClassTable}

pub classes_right : (t : List ℕ) → Test (λ (x : ℕ). leb x 0) (is_plain false) t 256 → Test (λ (x : ℕ). leb x 1) (is_plain true) t 256 → ClassTable t
classes_right t low high = record { at_byte = at_byte }
  where
    at_byte : (h : Bool) (b : ℕ) → b < 256 → leb (get_or t b 0) (class_in h) ≡ is_plain h b
    at_byte false b l = at_each (λ (x : ℕ). leb x 0) (is_plain false) t 256 low b l
    at_byte true b l = at_each (λ (x : ℕ). leb x 1) (is_plain true) t 256 high b l
