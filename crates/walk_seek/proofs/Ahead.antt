-- The item of a number: what is left of the list at the place that the loop has reached, and how many of it are still to be passed.
use Prim.Native.Nat.{ℕ, zero, suc, ◌≤◌}
use native.Mathlib.Omega.{arith}
use mathlib.Core.Path.{◌≡◌, refl, subst}
use mathlib.Core.Bool.{Bool, true, false}
use mathlib.Core.Logic.{◌↔◌}
use mathlib.Core.List.{List, ◌∷◌}
use lib.ListN.{drop}
use Rattle.std.specs.Prelude.{Some, None}
use Rattle.paper.specs.Bytes.{is_blank}
use Rattle.paper.specs.Lists.{Nth, Numbered}
use Rattle.paper.specs.Form.{Form, each}
use Rattle.paper.specs.Layout.{child}
use Rattle.paper.specs.Layout as layout
use Rattle.read_steps.specs.Follow.{Not, Starts, StandsBefore, closing}
use Rattle.read_steps.proofs.Fronts.{Leads}
use Rattle.walk_steps.specs.Stands.{Stands, tag_of, Over, TellsChild}
use Rattle.walk_steps.proofs.Places.{from}
use Rattle.walk_steps.proofs.Loops.{left_none, left_some}
use Rattle.walk_steps.proofs.Loops as loops
use Rattle.walk_items.specs.Items.{MeetsSequence}
use Rattle.walk_items.specs.declared.FoundSequence.{FoundSequence}
use Rattle.walk_items.proofs.Features.{qualifier_leads}
use Rattle.walk_items.proofs.Sequences.{sequence_leads, feature_leads}
use Rattle.walk_seek.specs.Items.{Asked, name_of, form_of, Seeks}
use Rattle.walk_seek.specs.declared.Item.{Item}
use Rattle.walk_seek.specs.declared.Item.TheVariants.{Sequence, Feature, Qualifier}

pub sequence_over : {s : List ℕ} {at : ℕ} {r : FoundSequence} → MeetsSequence s at r → Over (child layout.sequence) (Not is_blank) s at r.next
sequence_over f = record { is = λ q e d fol. (f q e d fol).next }

leads : (i : Item) (x : Asked i) → Leads (tag_of (name_of i)) (form_of i x)
leads Sequence x = sequence_leads x
leads Feature x = feature_leads x
leads Qualifier x = qualifier_leads x

-- what closes a list is no item of it
apart : (i : Item) → StandsBefore (name_of i) closing
apart Sequence = record { clash = refl; sharps = refl }
apart Feature = record { clash = refl; sharps = refl }
apart Qualifier = record { clash = refl; sharps = refl }

-- what is left of l at `at`; the number k of l is the one behind the first `ahead` of it
pub record Rest {A : Type 0} (F : A → Form) (s : List ℕ) (l : List A) (k at ahead e : ℕ) : Type 0 where
  pub rest : List A
  pub stands : Stands (each F rest) s at e
  pub same : (x : A) → Numbered l k x ↔ Numbered rest (suc ahead) x

-- of whichever list stands from `first` on
pub record Ahead (item : Item) (s : List ℕ) (first k at ahead : ℕ) : Type 0 where
  pub says : (l : List (Asked item)) (e : ℕ) → Stands (each (form_of item) l) s first e → Starts closing (drop e s) → Rest (form_of item) s l k at ahead e

-- behind the first of a list every number is one less
further : {A : Type 0} {m l : List A} {a : A} {n b : ℕ} → m ≡ a ∷ l → n ≡ suc b → (x : A) → Numbered m (suc n) x ↔ Numbered l (suc b) x
further {A} {l = l} {a} {b = b} em en x = rw (em, en) (λ y. to y.0 y.1 y.2, λ y. (suc y.0, omega (arith, y.1), y.2))
  where
    to : (i : ℕ) → suc (suc b) ≡ suc i → Nth (a ∷ l) i x → Numbered l (suc b) x
    to zero e h = absurd (omega (arith, e))
    to (suc i) e h = (i, omega (arith, e), h)

front : {A : Type 0} {m l : List A} {a : A} {n : ℕ} → m ≡ a ∷ l → n ≡ 0 → Numbered m (suc n) a
front em en = rw (em, en) (0, refl, refl)

module _ (item : Item) {s : List ℕ} {first k : ℕ} where
  -- numbers count from 1
  pub none_zero : k ≡ 0 → Seeks item s first k None
  none_zero h = record { says = λ l e d fol x y. omega (arith, h, y.1) }

  pub ahead_all : {n : ℕ} → k ≡ suc n → Ahead item s first k first n
  ahead_all h = record { says = λ l e d fol. record { rest = l; stands = d; same = λ x. rw h (λ y. y, λ y. y) } }

  module _ {at ahead : ℕ} {t : Bool} (there : TellsChild s at t) (w : Ahead item s first k at ahead) where
    -- an item that starts here is the first of what is left
    first_item : t ≡ true → (l : List (Asked item)) (e : ℕ) (d : Stands (each (form_of item) l) s first e) (fol : Starts closing (drop e s))
        → loops.Item (form_of item) s (w.says l e d fol).rest at e
    first_item h l e d fol =
        let r = w.says l e d fol in
        left_some (name_of item) (form_of item) (leads item) closing (apart item) h (there.tells (name_of item) (apart item).clash) fol r.rest r.stands

    pub ahead_none : t ≡ false → Seeks item s first k None
    ahead_none h =
        record {
          says =
              λ l e d fol x y.
              let r = w.says l e d fol in
              (subst (λ (m : List (Asked item)). Numbered m (suc ahead) x) (left_none (name_of item) (form_of item) (leads item) closing h (there.tells (name_of item) (apart item).clash) r.rest r.stands).0 ((r.same x).0 y)).2;
        }

    pub ahead_here : t ≡ true → ahead ≡ 0 → Seeks item s first k (Some at)
    ahead_here h z =
        record {
          says =
              λ l e d fol.
              let r = w.says l e d fol in
              let i = first_item h l e d fol in
              record {
                item = i.item;
                numbered = (r.same i.item).1 (front i.is z);
                end = i.end;
                stands = i.here;
                follows = i.follows;
              };
        }

    pub ahead_next : {n : ℕ} → t ≡ true → Over (form_of item) (Not is_blank) s at n → {b : ℕ} → ahead ≡ suc b → Ahead item s first k n b
    ahead_next h over less =
        record {
          says =
              λ l e d fol.
              let r = w.says l e d fol in
              let i = first_item h l e d fol in
              record {
                rest = i.others;
                stands = from (over.is i.item i.end i.here i.follows) i.behind;
                same = λ x. let f = further i.is less x in (λ y. f.0 ((r.same x).0 y), λ y. (r.same x).1 (f.1 y));
              };
        }

    -- an item is never empty
    pub ahead_stuck : {n : ℕ} → t ≡ true → Over (form_of item) (Not is_blank) s at n → n ≤ at → Seeks item s first k None
    ahead_stuck h over stuck =
        record {
          says =
              λ l e d fol.
              let i = first_item h l e d fol in
              absurd (omega (arith, stuck, i.onward, over.is i.item i.end i.here i.follows));
        }
