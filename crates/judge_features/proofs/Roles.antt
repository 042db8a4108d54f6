-- One feature judged, as a source, as a coding region, or as neither.
use Rattle.location_judge.specs.declared.judging.Facts.{Facts}
use Prim.Native.Nat.{ℕ}
use mathlib.Core.Path.{◌≡◌, refl, sym, ap, ◌∙◌, subst}
use mathlib.Core.Bool.{Bool, true, false}
use mathlib.Core.Logic.{inl, inr}
use mathlib.Core.List.{List}
use lib.ListN.{drop}
use Rattle.paper.specs.Bytes.{is_blank, raw}
use Rattle.paper.specs.Tree.{Sequence, Feature, qualifiers_of}
use Rattle.paper.specs.Rules.{L, Kind, upper_in, Coding, Unjudged, InLocation, InCoding, rule_27, rule_28, InVocabulary, InFeature}
use Rattle.std.specs.Prelude.{None, Option}
use Rattle.read_steps.specs.Follow.{Not}
use Rattle.read_steps.specs.Parts.{ShowsBytes}
use Rattle.walk_steps.specs.Stands.{Ends}
use Rattle.walk_steps.proofs.Places.{from}
use Rattle.walk_items.specs.Items.{MeetsFeature, IsFeature, feature_tail}
use Rattle.walk_items.specs.declared.FoundFeature.{FoundFeature}
use Rattle.value_words.specs.Reading.{Tells, KindIs, is_acid}
use Rattle.value_words.specs.declared.Molecule as code
use Rattle.value_words.specs.declared.Molecule.TheVariants as kind
use Rattle.value_words.proofs.Tests.{told}
use Rattle.location_judge.specs.Judging.{JudgedText, JudgesPart}
use Rattle.location_judge.proofs.Verdicts.{judged_by}
use Rattle.value_vocabulary.specs.Lookups.{FindsRow}
use Rattle.judge_faults.specs.Sets.{Fault, Faults, Earlier, Firsts}
use Rattle.judge_faults.specs.Known.{Knows, CodeOf}
use Rattle.judge_faults.specs.declared.Known.{Known}
use Rattle.judge_faults.proofs.Bytes.{part_shows, text_shown}
use Rattle.judge_faults.proofs.Parts.{◌or◌}
use Rattle.judge_faults.proofs.Faults.{firsts_or, firsts_as}
use Rattle.judge_faults.proofs.Moltypes.{code_is}
use Rattle.judge_qualifiers.specs.Qualifiers.{IsNoted, Notes}
use Rattle.judge_qualifiers.specs.declared.Noted.{Noted}
use Rattle.judge_vocabulary.specs.Words.{JudgesWords}
use Rattle.judge_source.specs.Sources.{JudgesSource}
use Rattle.judge_qualifiers.specs.Starts.{NamesCoding}
use Rattle.judge_coding.specs.Coding.{Asked, JudgesCoding}
use Rattle.judge_coding.specs.declared.Region.{Region}
use Rattle.judge_features.specs.Featured.{place_fault, IsSource, NamesSource, role_of, RoleIs, JudgesFeature}
use Rattle.judge_features.specs.declared.Role.{Role}
use Rattle.judge_features.specs.declared.Role.TheVariants as role
use Rattle.judge_features.proofs.Keys.{placed, not_both}

-- location and words, whether it is a coding region or not
abbrev Own : Sequence ℕ → Feature ℕ → Faults
Own q f = ◌or◌ (InLocation q f.location) (InVocabulary q f)

-- what is not a coding region breaks no rule of one
no_coding : {q : Sequence ℕ} {f : Feature ℕ} → ¬ Coding q f → {own : Fault} → Firsts (Own q f) own → Firsts (InFeature q f) own
no_coding {q} {f} n h = firsts_as (Own q f) (InFeature q f) out only h
  where
    out : (m p : ℕ) → Own q f m p → InFeature q f m p
    out m p (inl x) = inl x
    out m p (inr x) = inr (inr x)

    only : (m p : ℕ) → InFeature q f m p → Own q f m p
    only m p (inl x) = inl x
    only m p (inr (inl (rule_27 c g))) = absurd (n c)
    only m p (inr (inl (rule_28 x j y i t g))) = absurd (n j.coding)
    only m p (inr (inr x)) = inr x

with_coding : {q : Sequence ℕ} {f : Feature ℕ} {own coding both : Fault} → Firsts (Own q f) own → Firsts (InCoding q f) coding → Earlier own coding both → Firsts (InFeature q f) both
with_coding {q} {f} a b e = firsts_as (◌or◌ (Own q f) (InCoding q f)) (InFeature q f) out into (firsts_or (Own q f) (InCoding q f) a b e)
  where
    out : (m p : ℕ) → ◌or◌ (Own q f) (InCoding q f) m p → InFeature q f m p
    out m p (inl (inl x)) = inl x
    out m p (inl (inr x)) = inr (inr x)
    out m p (inr x) = inr (inl x)

    into : (m p : ℕ) → InFeature q f m p → ◌or◌ (Own q f) (InCoding q f) m p
    into m p (inl x) = inl (inl x)
    into m p (inr (inl x)) = inr x
    into m p (inr (inr x)) = inl (inr x)

module _ (v : Option Facts) {s : List ℕ} {known : Known} {x : FoundFeature} {q : Sequence ℕ} {f : Feature ℕ} {e : ℕ} (y : IsFeature s f e x) (k : Knows s q known)
    (jl : JudgesPart s x.location.from x.location.to known.top v) where
  judged : JudgedText (L q) f.location.read v
  judged = subst (λ (n : ℕ). JudgedText n f.location.read v) k.size (judged_by known.top v (jl.is (raw f.location.read) (text_shown y.location)) f.location.read refl)

  place_is : {place : Fault} → place ≡ place_fault v known.kind x.location.from → Firsts (InLocation q f.location) place
  place_is pl =
      subst (Firsts (InLocation q f.location)) (sym (pl ∙ ap (place_fault v known.kind) y.location.first))
      (placed q f.location v known.kind judged k.kind)

-- the names that were counted are those of the paper's kind
upper_is : (c : code.Molecule) (k : Kind) → CodeOf c k → is_acid c ≡ upper_in k
upper_is kind.Dna k e = rw e refl
upper_is kind.Rna k e = rw e refl
upper_is kind.Aa k e = rw e refl
upper_is kind.Other k e = absurd e

-- what is noted of a feature's qualifiers, and where the feature ends
module _ {s : List ℕ} {x : FoundFeature} {noted : Noted} {upper : Bool} {row : ℕ} {t : List ℕ} (notes : Notes s x.quals upper row t noted) where
  noted_of : (f : Feature ℕ) {e : ℕ} (z : IsFeature s f e x) → IsNoted s upper row t (qualifiers_of f) z.stop noted
  noted_of f z = notes.is (qualifiers_of f) z.stop z.quals z.closes

  next_is : {n : ℕ} → Ends (feature_tail x.long) (Not is_blank) s noted.next n → (f : Feature ℕ) {e : ℕ} → IsFeature s f e x → Not is_blank (drop e s) → n ≡ e
  next_is ends f {e} z fol = ends.is e (from (noted_of f z).next z.ends) fol

module _ (v : Option Facts) (place words own : Fault) {s wk t : List ℕ} {at n row : ℕ} {known : Known} {x : FoundFeature} {noted : Noted} {upper is-source : Bool} (finds : MeetsFeature s at x)
    (jl : JudgesPart s x.location.from x.location.to known.top v) (sk : ShowsBytes s x.key.from x.key.to wk) (rows : FindsRow t wk known.kind row)
    (eu : upper ≡ is_acid known.kind) (notes : Notes s x.quals upper row t noted) (pl : place ≡ place_fault v known.kind x.location.from)
    (jw : JudgesWords t x.key.from known.kind row noted.words words) (eo : Earlier place words own)
    (ends : Ends (feature_tail x.long) (Not is_blank) s noted.next n) (ns : NamesSource wk known.kind is-source) where
  -- what location and words break
  own_is : {q : Sequence ℕ} {f : Feature ℕ} {e : ℕ} (z : IsFeature s f e x) → Knows s q known → Firsts (Own q f) own
  own_is {q} {f} z k =
      firsts_or (InLocation q f.location) (InVocabulary q f) (place_is v z k jl pl)
      (jw.says q f k.kind
      (record {
        at = z.key.first;
        rows = λ j i. rows.says j (subst (λ (w : List ℕ). KindIs w known.kind) i k.kind) f.key.read (part_shows z.key sk);
        worded = (noted_of notes f z).says.worded;
      })) eo

  pub as_source : {y : Fault} → is-source ≡ true → JudgesSource s x.key.from x.location noted known y
      → JudgesFeature s at known (record { fault = own; source = y; role = role.Source; next = n })
  as_source h js =
      record {
        says =
            λ q f e k d fol.
            let z = finds f e d fol in
            let is = told (IsSource q f) h (ns.says q f k.kind (part_shows z.key sk)) in
            record {
              fault = no_coding (not_both is) (own_is z k);
              role = (is, not_both is);
              source =
                  λ j i g.
                  let u = eu ∙ upper_is known.kind j (code_is q.moltype.read known.kind k.kind j i) in
                  js.says (upper_in j) row t q f z.stop
                  (record { knows = k; at = z.key.first; located = z.location; quals = subst (λ (b : Bool). IsNoted s b row t (qualifiers_of f) z.stop noted) u (noted_of notes f z) });
              next = next_is notes ends f z fol;
            };
      }

  module _ {is-coding : Bool} (h : is-source ≡ false) (nc : NamesCoding wk known.kind is-coding) where
    pub as_coding : {y : Region} {r : Role} (both : Fault) → is-coding ≡ true → JudgesCoding s x.key.from x.location noted known v y → Earlier own y.fault both
        → r ≡ role_of y.unjudged → JudgesFeature s at known (record { fault = both; source = None; role = r; next = n })
    as_coding {y} {r} both g jc el er =
        record {
          says =
              λ q f e k d fol.
              let z = finds f e d fol in
              let key = part_shows z.key sk in
              let c = told (Coding q f) g (nc.says q f k.kind key) in
              let ns' = told (IsSource q f) h (ns.says q f k.kind key) in
              let asked : Asked s x.key.from x.location known v q f z.stop =
              record { knows = k; coding = c; at = z.key.first; located = z.location; judged = judged v z k jl; closes = z.closes } in
              let w = jc.says upper row t q f z.stop asked (noted_of notes f z) in
              record {
                fault = with_coding (own_is z k) w.fault el;
                role = subst (RoleIs q f) (sym er) (by q f ns' c y.unjudged w.unjudged);
                source = λ j i t. absurd (ns' (j, i, t));
                next = next_is notes ends f z fol;
              };
        }
      where
        by : (q : Sequence ℕ) (f : Feature ℕ) → ¬ IsSource q f → Coding q f → (u : Bool) → Tells u (Unjudged f) → RoleIs q f (role_of u)
        by q f i c true t = (i, c, t)
        by q f i c false t = (i, c, t)

    pub as_plain : is-coding ≡ false → JudgesFeature s at known (record { fault = own; source = None; role = role.Plain; next = n })
    as_plain g =
        record {
          says =
              λ q f e k d fol.
              let z = finds f e d fol in
              let key = part_shows z.key sk in
              let c = told (Coding q f) g (nc.says q f k.kind key) in
              let ns' = told (IsSource q f) h (ns.says q f k.kind key) in
              record {
                fault = no_coding c (own_is z k);
                role = (ns', c);
                source = λ j i t. absurd (ns' (j, i, t));
                next = next_is notes ends f z fol;
              };
        }
