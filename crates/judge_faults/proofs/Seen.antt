-- A loop that judges items: what has been seen of the list, with what is known of it, and what is left of it at the place reached.
use Prim.Native.Nat.{ℕ, suc, ◌≤◌}
use native.Mathlib.Omega.{arith}
use mathlib.Core.Path.{◌≡◌, refl, sym, ap, ◌∙◌, subst}
use mathlib.Core.Bool.{Bool, true, false}
use mathlib.Core.List.{List, [], ◌∷◌, ◌++◌, append_assoc, append-nil}
use lib.ListN.{drop}
use Rattle.paper.specs.Bytes.{is_blank}
use Rattle.paper.specs.Lists.{Count, end, has, lacks}
use Rattle.paper.specs.Form.{Form, each}
use Rattle.read_steps.specs.Follow.{Not, Starts, StandsBefore}
use Rattle.read_steps.proofs.Fronts.{Leads}
use Rattle.walk_steps.specs.Stands.{Stands, tag_of, TellsTag, Over}
use Rattle.walk_steps.proofs.Places.{from}
use Rattle.walk_steps.proofs.Loops.{left_none, left_some}

-- whichever list stands from `first` on: R holds of its items up to `at`, and the others stand there
pub record Seen {A : Type 0} (F : A → Form) (fl : List (List ℕ)) (s : List ℕ) (first at : ℕ) (R : List A → Type 0) : Type 0 where
  pub is : (l : List A) (e : ℕ) → Stands (each F l) s first e → Starts fl (drop e s)
      → (done : List A) × (k : List A) × (l ≡ done ++ k) × Stands (each F k) s at e × R done

module _ {A : Type 0} (F : A → Form) (fl : List (List ℕ)) {s : List ℕ} where
  pub seen_none : (first : ℕ) (R : List A → Type 0) → R [] → Seen F fl s first first R
  seen_none first R r = record { is = λ l e d fol. ([], l, refl, d, r) }

module _ {A : Type 0} (name : List ℕ) (F : A → Form) (leads : (a : A) → Leads (tag_of name) (F a)) (fl : List (List ℕ)) (b : StandsBefore name fl) {s : List ℕ} {first at : ℕ} where
  -- one item more
  pub seen_next : {t : Bool} {n : ℕ} (R T : List A → Type 0) → t ≡ true → TellsTag name fl s at t → Seen F fl s first at R → Over F (Not is_blank) s at n
      → ((done : List A) (x : A) (e : ℕ) → Stands (F x) s at e → Not is_blank (drop e s) → R done → T (done ++ (x ∷ []))) → Seen F fl s first n T
  seen_next R T h t w o more =
      record {
        is =
            λ l e d fol.
            let y = w.is l e d fol in
            let i = left_some name F leads fl b h t fol y.1 y.3 in (
              y.0 ++ (i.item ∷ []),
              i.others,
              y.2 ∙ ap (λ (k : List A). y.0 ++ k) i.is ∙ sym (append_assoc y.0 (i.item ∷ []) i.others),
              from (o.is i.item i.end i.here i.follows) i.behind,
              more y.0 i.item i.end i.here i.follows y.4,
            );
      }

  -- an item that stands is not empty, so the loop goes on
  pub seen_stuck : {t : Bool} {n : ℕ} (R : List A → Type 0) → t ≡ true → TellsTag name fl s at t → Seen F fl s first at R → Over F (Not is_blank) s at n → n ≤ at
      → (l : List A) (e : ℕ) → Stands (each F l) s first e → Starts fl (drop e s) → ⊥
  seen_stuck R h t w o stuck l e d fol =
      let y = w.is l e d fol in
      let i = left_some name F leads fl b h t fol y.1 y.3 in
      omega (arith, stuck, i.onward, o.is i.item i.end i.here i.follows)

  -- where no item starts all have been seen
  pub seen_all : {t : Bool} (R : List A → Type 0) → t ≡ false → TellsTag name fl s at t → Seen F fl s first at R
      → (l : List A) (e : ℕ) → Stands (each F l) s first e → Starts fl (drop e s) → R l × (at ≡ e)
  seen_all R h t w l e d fol =
      let y = w.is l e d fol in
      let k = left_none name F leads fl h t y.1 y.3 in
      (subst R (sym (y.2 ∙ ap (λ (u : List A). y.0 ++ u) k.0 ∙ append-nil y.0)) y.4, k.1)

-- ---- counts of what has been seen

module _ {A : Type 0} (C : A → Type 0) where
  pub count_has : (l : List A) (x : A) {n : ℕ} → Count C l n → C x → Count C (l ++ (x ∷ [])) (suc n)
  count_has [] x end c = has c end
  count_has (y ∷ l) x (has d r) c = has d (count_has l x r c)
  count_has (y ∷ l) x (lacks d r) c = lacks d (count_has l x r c)

  pub count_lacks : (l : List A) (x : A) {n : ℕ} → Count C l n → ¬ C x → Count C (l ++ (x ∷ [])) n
  count_lacks [] x end c = lacks c end
  count_lacks (y ∷ l) x (has d r) c = has d (count_lacks l x r c)
  count_lacks (y ∷ l) x (lacks d r) c = lacks d (count_lacks l x r c)
