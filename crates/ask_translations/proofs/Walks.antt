-- A loop over the features of a table.
use Prim.Native.Nat.{ℕ, ◌≤◌}
use mathlib.Core.Path.{◌≡◌, refl}
use mathlib.Core.Bool.{Bool, true, false}
use mathlib.Core.List.{List, [], ◌∷◌, ◌++◌}
use lib.ListN.{drop}
use Rattle.paper.specs.Bytes.{bytes, is_blank}
use Rattle.paper.specs.Form.{each}
use Rattle.paper.specs.Layout.{child, feature}
use Rattle.paper.specs.Tree.{Sequence, Feature}
use Rattle.read_steps.specs.Follow.{Not, Starts, closing}
use Rattle.walk_steps.specs.Stands.{Stands, TellsChild, Ends}
use Rattle.walk_steps.proofs.Places.{from}
use Rattle.walk_items.specs.Items.{MeetsFeature, PassesFeature, IsFeature, feature_tail}
use Rattle.walk_items.specs.declared.FoundFeature.{FoundFeature}
use Rattle.walk_items.proofs.Sequences.{feature_over, feature_leads}
use Rattle.judge_faults.proofs.Seen.{Seen, seen_none, seen_next, seen_stuck, seen_all}
use Rattle.judge_qualifiers.proofs.Lists.{in_front}
use Rattle.judge_faults.specs.declared.Known.{Known}
use Rattle.ask_translation.specs.Plans.{Plans}
use Rattle.ask_translation.specs.declared.Planned.{Planned}
use Rattle.ask_translations.specs.Lines.{KeepAll}

-- R holds of the features from `first` up to `at`
abbrev pub SeenFeatures : List ℕ → ℕ → ℕ → (List (Feature ℕ) → Type 0) → Type 0
SeenFeatures s first at R = Seen (child feature) closing s first at R

pub none_seen : {s : List ℕ} (first : ℕ) (R : List (Feature ℕ) → Type 0) → R [] → SeenFeatures s first first R
none_seen first R r = seen_none (child feature) closing first R r

module _ {s : List ℕ} {first at : ℕ} {t : Bool} (R : List (Feature ℕ) → Type 0) where
  module _ {g : FoundFeature} {n : ℕ} where
    pub one_more : (T : List (Feature ℕ) → Type 0) → t ≡ true → TellsChild s at t → SeenFeatures s first at R → MeetsFeature s at g → PassesFeature s g n
        → ((l : List (Feature ℕ)) (x : Feature ℕ) (e : ℕ) → IsFeature s x e g → R l → T (l ++ (x ∷ []))) → SeenFeatures s first n T
    one_more T h here w f p more =
        seen_next (bytes "INSDFeature") (child feature) feature_leads closing (record { clash = refl; sharps = refl }) R T h (here.tells (bytes "INSDFeature") refl) w (feature_over f p)
        (λ l x e d fol r. more l x e (f x e d fol) r)

    pub stuck : t ≡ true → TellsChild s at t → SeenFeatures s first at R → MeetsFeature s at g → PassesFeature s g n → n ≤ at
        → (l : List (Feature ℕ)) (e : ℕ) → Stands (each (child feature) l) s first e → Starts closing (drop e s) → ⊥
    stuck h here w f p =
        seen_stuck (bytes "INSDFeature") (child feature) feature_leads closing (record { clash = refl; sharps = refl }) R h (here.tells (bytes "INSDFeature") refl) w (feature_over f p)

  pub all_seen : t ≡ false → TellsChild s at t → SeenFeatures s first at R
      → (l : List (Feature ℕ)) (e : ℕ) → Stands (each (child feature) l) s first e → Starts closing (drop e s) → R l
  all_seen h here w l e d fol =
      (seen_all (bytes "INSDFeature") (child feature) feature_leads closing (record { clash = refl; sharps = refl }) R h (here.tells (bytes "INSDFeature") refl) w l e d fol).0

-- no rule is broken on the features before the last one
pub keep_front : {q : Sequence ℕ} (l : List (Feature ℕ)) (x : Feature ℕ) → KeepAll q (l ++ (x ∷ [])) → KeepAll q l
keep_front l x keep f m = keep f (in_front l x f m)

-- past a feature, from where its qualifiers end
pub planned_passes : {s : List ℕ} {known : Known} {g : FoundFeature} {x : Planned} {n : ℕ} → Plans s known g x → Ends (feature_tail g.long) (Not is_blank) s x.next n
    → PassesFeature s g n
planned_passes plans ends = record { is = λ f e i fol. ends.is e (from (plans.ends f e i) i.ends) fol }
