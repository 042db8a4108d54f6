-- The faults of a source.
use Prim.Native.Nat.{ℕ}
use Prim.Native.String.{String}
use mathlib.Core.Path.{◌≡◌, refl, ap, ◌∙◌, subst}
use mathlib.Core.Bool.{Bool, true, false}
use mathlib.Core.Logic.{inl, inr}
use mathlib.Core.List.{List}
use Rattle.paper.specs.Lists.{Count}
use Rattle.paper.specs.Tree.{Sequence, Feature, Qualifier, qualifiers_of}
use Rattle.paper.specs.Rules.{L, Named, organism_name, mol_type_name, Whole, InSource, rule_22, rule_23}
use Rattle.paper.proofs.Lists.{count_once}
use Rattle.judge_faults.proofs.Parts.{◌or◌}
use Rattle.read_steps.specs.Parts.{ShowsBytes}
use Rattle.value_words.specs.Reading.{Tells, OfRead}
use Rattle.walk_steps.specs.declared.Range.{Range}
use Rattle.judge_faults.specs.Sets.{Fault, Earlier, Firsts, Bad, Faults, unless_of}
use Rattle.judge_faults.specs.declared.Known.{Known}
use Rattle.judge_faults.proofs.Counters.{capped_one, one_capped}
use Rattle.judge_faults.proofs.Faults.{firsts_or, firsts_as, firsts_unless}
use Rattle.judge_faults.proofs.Values.{text_fault}
use Rattle.judge_qualifiers.specs.Qualifiers.{Counted}
use Rattle.judge_qualifiers.specs.declared.Noted.{Noted}
use Rattle.judge_source.specs.Sources.{TellsOnce, JudgesSource}

-- exactly one, as the number says
one_count : {name : String} {l : List (Qualifier ℕ)} {n : ℕ} → Counted name l n → n ≡ 1 → Count (Named name) l 1
one_count {name} {l} c e = subst (Count (Named name) l) (capped_one c.capped e) c.is

count_one : {name : String} {l : List (Qualifier ℕ)} {n : ℕ} → Counted name l n → Count (Named name) l 1 → n ≡ 1
count_one c o = one_capped c.capped (count_once c.is o)

-- what rules 22 and 23 ask
abbrev Once : Bool → Feature ℕ → Type 0
Once upper f = Count (Named (organism_name upper)) (qualifiers_of f) 1 × Count (Named (mol_type_name upper)) (qualifiers_of f) 1

abbrev In22 : Bool → Feature ℕ → Faults
In22 upper f = Bad 22 f.key.place (Once upper f)

abbrev In23 : Sequence ℕ → Feature ℕ → Faults
In23 q f = Bad 23 f.location.place (Whole (L q) f.location.read)

once_tells : (upper : Bool) (f : Feature ℕ) {n m : ℕ} (t : Bool) → Tells t ((n ≡ 1) × (m ≡ 1)) → Counted (organism_name upper) (qualifiers_of f) n
    → Counted (mol_type_name upper) (qualifiers_of f) m → Tells t (Once upper f)
once_tells upper f true h o m = (one_count o h.0, one_count m h.1)
once_tells upper f false h o m = λ c. h (count_one o c.0, count_one m c.1)

module _ (upper : Bool) (q : Sequence ℕ) (f : Feature ℕ) where
  out : (n p : ℕ) → ◌or◌ (In22 upper f) (In23 q f) n p → InSource upper q f n p
  out n p (inl z) = rw (z.0, z.1) (rule_22 z.2)
  out n p (inr z) = rw (z.0, z.1) (rule_23 z.2)

  into : (n p : ℕ) → InSource upper q f n p → ◌or◌ (In22 upper f) (In23 q f) n p
  into n p (rule_22 h) = inl (refl, refl, h)
  into n p (rule_23 h) = inr (refl, refl, h)

pub source_judged : {s w : List ℕ} {key : ℕ} {location : Range} {noted : Noted} {known : Known} {once whole : Bool} (a b : Fault) {r : Fault}
    → TellsOnce noted.organisms noted.moltypes once → a ≡ unless_of once 22 key
    → ShowsBytes s location.from location.to w → OfRead w (Whole known.top) whole → b ≡ unless_of whole 23 location.from → Earlier a b r
    → JudgesSource s key location noted known r
source_judged {known = known} {once} {whole} a b to' e22 sh ow e23 el =
    record {
      says =
          λ upper row t q f stop g.
          let n = g.quals.says in
          let fa : Firsts (In22 upper f) a =
          firsts_unless once 22 f.key.place (once_tells upper f once to'.says n.organisms_are n.mol_types_are) (e22 ∙ ap (unless_of once 22) g.at) in
          let fb : Firsts (In23 q f) b =
          subst (λ (m : ℕ). Firsts (Bad 23 f.location.place (Whole m f.location.read)) b) g.knows.size (text_fault 23 (Whole known.top) whole g.located sh ow e23) in
          firsts_as (◌or◌ (In22 upper f) (In23 q f)) (InSource upper q f) (out upper q f) (into upper q f) (firsts_or (In22 upper f) (In23 q f) fa fb el);
    }
