-- A loop over the qualifiers of a feature.
use Prim.Native.Nat.{ℕ, ◌≤◌}
use mathlib.Core.Path.{◌≡◌, refl}
use mathlib.Core.Bool.{Bool, true, false}
use mathlib.Core.List.{List, [], ◌∷◌, ◌++◌}
use lib.ListN.{drop}
use Rattle.paper.specs.Bytes.{bytes}
use Rattle.paper.specs.Form.{each}
use Rattle.paper.specs.Tree.{Qualifier}
use Rattle.paper.specs.Layout.{child, qualifier}
use Rattle.read_steps.specs.Follow.{Starts, closing}
use Rattle.walk_steps.specs.Stands.{Stands, IsPart, MaybeIs, TellsChild}
use Rattle.walk_items.specs.Items.{MeetsQualifier}
use Rattle.walk_items.specs.declared.FoundQualifier.{FoundQualifier}
use Rattle.walk_items.proofs.Features.{qualifier_leads}
use Rattle.walk_items.proofs.Sequences.{qualifier_over}
use Rattle.judge_faults.proofs.Seen.{Seen, seen_next, seen_stuck, seen_all}

-- R holds of the qualifiers from `first` up to `at`
abbrev pub SeenSo : List ℕ → ℕ → ℕ → (List (Qualifier ℕ) → Type 0) → Type 0
SeenSo s first at R = Seen (child qualifier) closing s first at R

module _ {s : List ℕ} {first at : ℕ} {t : Bool} (R : List (Qualifier ℕ) → Type 0) where
  pub one_more : {x : FoundQualifier} (T : List (Qualifier ℕ) → Type 0) → t ≡ true → TellsChild s at t → SeenSo s first at R → MeetsQualifier s at x
      → ((l : List (Qualifier ℕ)) (q : Qualifier ℕ) → IsPart s q.name x.name → MaybeIs s q.value x.value → R l → T (l ++ (q ∷ []))) → SeenSo s first x.next T
  one_more T h here w f more =
      seen_next (bytes "INSDQualifier") (child qualifier) qualifier_leads closing (record { clash = refl; sharps = refl }) R T h (here.tells (bytes "INSDQualifier") refl) w (qualifier_over f)
      (λ l q e d fol r. let z = f q e d fol in more l q z.name z.value r)

  pub stuck : {x : FoundQualifier} → t ≡ true → TellsChild s at t → SeenSo s first at R → MeetsQualifier s at x → x.next ≤ at
      → (l : List (Qualifier ℕ)) (e : ℕ) → Stands (each (child qualifier) l) s first e → Starts closing (drop e s) → ⊥
  stuck h here w f =
      seen_stuck (bytes "INSDQualifier") (child qualifier) qualifier_leads closing (record { clash = refl; sharps = refl }) R h (here.tells (bytes "INSDQualifier") refl) w (qualifier_over f)

  pub all_seen : t ≡ false → TellsChild s at t → SeenSo s first at R
      → (l : List (Qualifier ℕ)) (e : ℕ) → Stands (each (child qualifier) l) s first e → Starts closing (drop e s) → R l × (at ≡ e)
  all_seen h here w =
      seen_all (bytes "INSDQualifier") (child qualifier) qualifier_leads closing (record { clash = refl; sharps = refl }) R h (here.tells (bytes "INSDQualifier") refl) w
