-- What no broken rule gives, of an accepted sequence and of its features.
use Prim.Native.Nat.{ℕ}
use mathlib.Core.Path.{◌≡◌, refl, sym, ◌∙◌}
use mathlib.Core.Bool.{Bool, true, false}
use mathlib.Core.Logic.{inl}
use mathlib.Core.Option.{Option, none, some, none-ne-some}
use Rattle.paper.specs.Bytes.{all}
use Rattle.paper.specs.Tree.{Sequence, Feature}
use Rattle.paper.specs.Locations.{Location, Locates, breaks25}
use Rattle.paper.specs.Rules.{L, Kind, IsKind, is_symbol, InTexts, residues, rule_18, rule_24, rule_25}
use Rattle.paper.proofs.Leading.{all?}
use Rattle.paper.proofs.Locate.{locate_sound, locate_complete}
use Rattle.paper.proofs.Locate.Model.{locate}
use Rattle.ask_translation.specs.Plans.{Keeps}

-- rule 18
pub symbols : {q : Sequence ℕ} → ((n p : ℕ) → ¬ InTexts q n p) → (d : Kind) → IsKind d q → all (is_symbol d) q.residues.read
symbols {q} texts d h = by (all? (is_symbol d) q.residues.read)
  where
    by : Dec (all (is_symbol d) q.residues.read) → all (is_symbol d) q.residues.read
    by (yes s) = s
    by (no n) = absurd (texts 18 _ (residues (rule_18 d h n)))

-- rules 24 and 25
pub location_right : {q : Sequence ℕ} {f : Feature ℕ} → Keeps q f → (t : Location) × Locates t f.location.read × (breaks25 (L q) t ≡ false)
location_right {q} {f} keeps = by (locate f.location.read) refl
  where
    inside : (t : Location) → Locates t f.location.read → (b : Bool) → breaks25 (L q) t ≡ b → breaks25 (L q) t ≡ false
    inside t h true e = absurd (keeps.feature 25 f.location.place (inl (rule_25 t h e)))
    inside t h false e = e

    by : (o : Option Location) → locate f.location.read ≡ o → (t : Location) × Locates t f.location.read × (breaks25 (L q) t ≡ false)
    by none e =
        absurd (keeps.feature 24 f.location.place (inl (rule_24 (λ t h. none-ne-some t (sym e ∙ locate_complete f.location.read t h)))))
    by (some t) e = let h = locate_sound f.location.read t e in (t, h, inside t h (breaks25 (L q) t) refl)
