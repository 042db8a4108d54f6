-- How a feature is translated, by what was found of it; and the coding text of a judged CDS.
use Prim.Native.Nat.{ℕ, ◌-◌}
use native.Mathlib.Decide.{ℕ_discrete}
use mathlib.Core.Path.{◌≡◌, refl, sym, ap, ◌∙◌, subst}
use mathlib.Core.Bool.{Bool, true, false, true≢false}
use mathlib.Core.Logic.{inl, inr}
use mathlib.Core.List.{List, List-discrete}
use mathlib.Core.Option.{Option, none, some}
use Rattle.std.specs.Prelude.{None, Some}
use Rattle.std.specs.Prelude as rust
use lib.ListN.{drop}
use Rattle.paper.specs.Bytes.{bytes, raw}
use Rattle.paper.specs.Lists.{◌∈◌}
use Rattle.paper.specs.Form.{each}
use Rattle.paper.specs.Layout.{child, qualifier}
use Rattle.paper.specs.Tree.{Text, Sequence, Feature, Qualifier, opt, qualifiers_of}
use Rattle.paper.specs.Translation.{code1, coding_text, drop_stop, has_stop_inside}
use Rattle.paper.specs.Locations.{Location, spans}
use Rattle.paper.specs.Rules.{Named, Coding, Unjudged, Judged, value_read, value_place, rule_27, rule_28}
use Rattle.paper.proofs.Texts.{raw_once}
use Rattle.read_steps.specs.Follow.{Starts, closing}
use Rattle.read_steps.specs.Parts.{ShowsBytes}
use Rattle.value_words.specs.Reading.{Tells}
use Rattle.value_words.proofs.Tests.{tells_true, tells_false}
use Rattle.walk_steps.specs.Stands.{MaybeIs, TellsChild, Over}
use Rattle.walk_steps.proofs.Loops.{left_some}
use Rattle.walk_items.proofs.Features.{qualifier_leads}
use Rattle.walk_steps.specs.declared.Range.{Range}
use Rattle.walk_items.specs.Items.{MeetsQualifier, IsFeature}
use Rattle.walk_items.specs.declared.FoundQualifier.{FoundQualifier}
use Rattle.walk_items.specs.declared.FoundFeature.{FoundFeature}
use Rattle.location_judge.specs.Judging.{Spells, LeavesPart}
use Rattle.protein_codons.specs.Reading.{Codes}
use Rattle.protein_codons.specs.Letters.{letters_of}
use Rattle.protein_compare.specs.Comparing.{RightValue}
use Rattle.protein_compare.proofs.Plain.{as_written}
use Rattle.judge_faults.specs.Known.{Knows}
use Rattle.judge_faults.specs.declared.Known.{Known}
use Rattle.judge_faults.proofs.Bytes.{part_shows, text_shown}
use Rattle.judge_qualifiers.specs.Qualifiers.{Notes, IsNoted}
use Rattle.judge_qualifiers.specs.Starts.{NamesCoding, StartsAt}
use Rattle.judge_qualifiers.specs.declared.Noted.{Noted}
use Rattle.judge_qualifiers.proofs.Exceptions.{leaves_by_qualifier, leaves_by_location}
use Rattle.judge_qualifiers.proofs.Lists.{in_behind}
use Rattle.judge_coding.proofs.Regions.{residues_read, found_codes}
use Rattle.ask_translation.specs.Plans.{Keeps, GivenIs, GivenAt, PlannedFrom, PlanIs, Plans}
use Rattle.ask_translation.specs.declared.Plan.{Plan}
use Rattle.ask_translation.specs.declared.Plan.TheVariants.{NoCds, Given, From}
use Rattle.ask_translation.specs.declared.Plan.TheVariants as plan
use Rattle.ask_translation.proofs.Kept.{symbols, location_right}

module _ {q : Sequence ℕ} {f : Feature ℕ} (keeps : Keeps q f) where
  -- the value of a translation is right, since rule 28 isn't broken
  value_right : {x : List ℕ} → Judged q f x → (y : Qualifier ℕ) → y ∈ qualifiers_of f → Named "translation" y → (v : List ℕ) → value_read y ≡ some v → RightValue x v
  value_right {x} j y m n v e = record { clear = clear (has_stop_inside x) refl; same = same (List-discrete ℕ_discrete v (drop_stop x)) }
    where
      broken : ¬ ((value_read y ≡ some (drop_stop x)) × (has_stop_inside x ≡ false)) → ⊥
      broken h = keeps.feature 28 (value_place y.value y.name) (inr (inl (rule_28 x j y m n h)))

      clear : (b : Bool) → has_stop_inside x ≡ b → has_stop_inside x ≡ false
      clear true z = absurd (broken (λ h. true≢false (sym z ∙ h.1)))
      clear false z = z

      same : Dec (v ≡ drop_stop x) → v ≡ drop_stop x
      same (yes d) = d
      same (no d) = absurd (broken (λ h. d (let z = sym e ∙ h.0 in cc)))

-- ---- the value that the listing gives

module _ {s : List ℕ} {at : ℕ} where
  pub given_none : GivenAt s at None
  given_none = record { says = λ l e d fol. tt }

  -- of the qualifier that stands there, if its name is translation
  pub given_value : {x : FoundQualifier} {n : List ℕ} {here same : Bool} → TellsChild s at here → here ≡ true → MeetsQualifier s at x
      → ShowsBytes s x.name.from x.name.to n → Tells same (n ≡ bytes "translation") → same ≡ true → GivenAt s at x.value
  given_value {x} {n} {same = same} tells h f shown t e =
      record {
        says =
            λ l stop d fol.
            let i = left_some (bytes "INSDQualifier") (child qualifier) qualifier_leads closing (record { clash = refl; sharps = refl }) h (tells.tells (bytes "INSDQualifier") refl) fol l d in
            let y = f i.item i.end i.here i.follows in
            let named = raw_once i.item.name.read (bytes "translation") (sym (part_shows y.name shown) ∙ tells_true same e t) in
            of x.value l i.item (subst (λ (k : List (Qualifier ℕ)). i.item ∈ k) (sym i.is) (0, refl)) named y.value;
      }
    where
      of : (m : rust.Option Range) (l : List (Qualifier ℕ)) (q : Qualifier ℕ) → q ∈ l → Named "translation" q → MaybeIs s q.value m → GivenIs s l m
      of None l q i k v = tt
      of (Some p) l q i k v = (q, i, k, v)

-- ---- the plan

module _ {s t : List ℕ} {g : FoundFeature} {x : Noted} (notes : Notes s g.quals false 0 t x) where
  noted : {f : Feature ℕ} {e : ℕ} (i : IsFeature s f e g) → IsNoted s false 0 t (qualifiers_of f) i.stop x
  noted {f} i = notes.is (qualifiers_of f) i.stop i.quals i.closes

  left : {u : Bool} → x.excepted ≡ false → LeavesPart s g.location.from g.location.to u
      → {q : Sequence ℕ} {f : Feature ℕ} {e : ℕ} → IsFeature s f e g → Keeps q f → Tells u (Unjudged f)
  left {u} z part {f = f} i keeps =
      let t = location_right keeps in
      let spelt : Spells (raw f.location.read) t.0 = record { text = f.location.read; written = refl; located = t.1 } in
      leaves_by_location f (tells_false x.excepted z (noted i).says.left) u t.0 t.1
      ((part.is (raw f.location.read) (text_shown i.location)).says t.0 spelt)

module _ {s wk : List ℕ} {known : Known} {g : FoundFeature} {named : Bool} (sk : ShowsBytes s g.key.from g.key.to wk) (nc : NamesCoding wk known.kind named) where
  pub plan_none : {n : ℕ} → named ≡ false → Over (each (child qualifier)) (Starts closing) s g.quals n → Plans s known g (record { plan = NoCds; next = n })
  plan_none h over =
      record {
        says = λ q f e k i keeps. tells_false named h (nc.says q f k.kind (part_shows i.key sk));
        ends = λ f e i. over.is (qualifiers_of f) i.stop i.quals i.closes;
      }

  module _ {t : List ℕ} {x : Noted} (h : named ≡ true) (notes : Notes s g.quals false 0 t x) where
    plans : {p : Plan} → ((q : Sequence ℕ) (f : Feature ℕ) (e : ℕ) → Knows s q known → IsFeature s f e g → Keeps q f → PlanIs s q f p)
        → Plans s known g (record { plan = p; next = x.next })
    plans by = record { says = by; ends = λ f e i. (noted notes i).next }

    coding : {q : Sequence ℕ} {f : Feature ℕ} {e : ℕ} → Knows s q known → IsFeature s f e g → Coding q f
    coding {q} {f} k i = tells_true named h (nc.says q f k.kind (part_shows i.key sk))

    pub plan_excepted : x.excepted ≡ true → Plans s known g (record { plan = plan.Unjudged; next = x.next })
    plan_excepted z = plans (λ q f e k i keeps. (coding k i, leaves_by_qualifier f z (noted notes i).says.left))

    module _ {u : Bool} (z : x.excepted ≡ false) (part : LeavesPart s g.location.from g.location.to u) where
      pub plan_odd : u ≡ true → Plans s known g (record { plan = plan.Unjudged; next = x.next })
      plan_odd w = plans (λ q f e k i keeps. (coding k i, tells_true u w (left notes z part i keeps)))

      module _ {n : ℕ} (w : u ≡ false) (st : StartsAt x.frame n) where
        judged : (q : Sequence ℕ) (f : Feature ℕ) (e : ℕ) → Knows s q known → IsFeature s f e g → Keeps q f → PlannedFrom q f n
        judged q f e k i keeps =
            let c = coding k i in
            let t = location_right keeps in
            let starts = st.says f (noted notes i).says.framed (λ y. keeps.feature 27 f.key.place (inr (inl (rule_27 c y)))) in
            record {
              location = t.0;
              located = t.1;
              inside = t.2;
              judged =
                  record {
                    coding = c;
                    symbols = symbols keeps.texts c.kind c.is;
                    judged = tells_false u w (left notes z part i keeps);
                    codons = record { location = t.0; located = t.1; inside = t.2; start = n; starts = starts; are = refl };
                  };
            }

        pub plan_from : Plans s known g (record { plan = From n; next = x.next })
        plan_from = plans judged

        pub plan_given : {m : rust.Option Range} {p : Range} → GivenAt s x.rest m → m ≡ Some p → Plans s known g (record { plan = Given p; next = x.next })
        plan_given {p = p} given e =
            plans
            (λ q f end k i keeps.
            let j = judged q f end k i keeps in
            let r = (noted notes i).rest in
            let y = subst (GivenIs s r.back) e (given.says r.back i.stop r.stands i.closes) in
            let m = subst (λ (l : List (Qualifier ℕ)). y.0 ∈ l) (sym r.is) (in_behind r.front r.back y.0 y.1) in
            record {
              letters = letters_of code1 q.residues.read n j.location;
              judged = j.judged;
              right = right j y.0 (value_right keeps j.judged y.0 m y.2) y.0.value refl y.3;
            })
          where
            right : {q : Sequence ℕ} {f : Feature ℕ} (j : PlannedFrom q f n) (y : Qualifier ℕ)
                → ((v : List ℕ) → value_read y ≡ some v → RightValue (letters_of code1 q.residues.read n j.location) v)
                → (o : Option (Text ℕ)) → y.value ≡ o → MaybeIs s o (Some p)
                → (b : List ℕ) → ShowsBytes s p.from p.to b → RightValue (letters_of code1 q.residues.read n j.location) b
            right j y by none e v b shown = absurd v
            right {q} j y by (some t) e v b shown =
                as_written code1 refl (drop (n - 1) (coding_text q.residues.read (spans j.location))) b t.read (part_shows v shown)
                (by t.read (ap (opt (λ (t : Text ℕ). t.read)) e))

-- ---- the coding text of a judged CDS

-- of the residues and the location as they were found
pub record FoundCds (r loc : List ℕ) (top start : ℕ) (q : Sequence ℕ) (f : Feature ℕ) : Type 0 where
  pub location : Location
  pub codes : Codes r loc top location
  pub judged : Judged q f (letters_of code1 r start location)

pub found_cds : {s r loc : List ℕ} {known : Known} {g : FoundFeature} {start : ℕ} → ShowsBytes s known.residues.from known.residues.to r
    → ShowsBytes s g.location.from g.location.to loc
    → {q : Sequence ℕ} {f : Feature ℕ} {e : ℕ} → Knows s q known → IsFeature s f e g → PlannedFrom q f start → FoundCds r loc known.top start q f
found_cds {start = start} shr shl {q} {f} k i p =
    let er = residues_read k shr p.judged.coding.kind p.judged.symbols in
    record {
      location = p.location;
      codes = found_codes k (part_shows i.location shl) er p.located p.inside;
      judged = subst (λ (y : List ℕ). Judged q f (letters_of code1 y start p.location)) (sym er) p.judged;
    }
