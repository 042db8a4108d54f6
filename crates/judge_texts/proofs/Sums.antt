-- The faults of a sequence's texts, put together.
use Rattle.std.proofs.Common.{◌≡◌, ℕ, ◌+◌, ◌<◌, ◌≤◌, Bool, leb, List, [], ◌∷◌, length, sym, refl, ap, ◌∙◌, subst, inl, inr, arith}
use Rattle.paper.specs.Bytes.{bytes, spell, raw, all, leading}
use Rattle.paper.specs.Lists.{Count}
use Rattle.paper.specs.Tree.{Sequence}
use Rattle.paper.specs.Values.{Number}
use Rattle.paper.specs.Rules.{L, Kind, dna, rna, aa, IsKind, is_symbol, undefined, fewest, InResidues, InTexts, rule_16, rule_17, residues, rule_18, rule_19, rule_20}
use Rattle.paper.proofs.Lists.{count_once}
use Rattle.judge_faults.proofs.Parts.{◌or◌}
use Rattle.read_steps.specs.Parts.{ShowsBytes}
use Rattle.value_words.specs.Reading.{Tells, OfRead, KindIs, Names, is_known}
use Rattle.value_words.specs.declared.Molecule as code
use Rattle.value_words.specs.declared.Molecule.TheVariants as kind
use Rattle.value_words.proofs.Read.{tells_word}
use Rattle.value_residues.specs.Residues.{HasDefined}
use Rattle.walk_steps.specs.declared.Range.{Range}
use Rattle.judge_faults.specs.Sets.{Fault, Earlier, Faults, Firsts, Bad, unless_of}
use Rattle.judge_faults.specs.declared.Known.{Known}
use Rattle.judge_faults.proofs.Bytes.{part_shows}
use Rattle.judge_faults.proofs.Faults.{firsts_or, firsts_as, firsts_unless}
use Rattle.judge_faults.proofs.Moltypes.{kind_once}
use Rattle.judge_faults.proofs.Symbols.{symbols_told}
use Rattle.judge_faults.proofs.Values.{text_fault}
use Rattle.judge_texts.specs.Texts.{JudgesNumber, TellsSkipped, JudgesSymbols, JudgesResidues, JudgesTexts}

-- ---- rules 18 and 19

-- both undefined ones are written as they read
plain : (k : Kind) → spell (undefined k) ≡ undefined k ∷ []
plain dna = refl
plain rna = refl
plain aa = refl

abbrev Breaks18 : Sequence ℕ → Kind → Faults
Breaks18 q k = Bad 18 (q.residues.place + length (raw (leading (is_symbol k) q.residues.read))) (all (is_symbol k) q.residues.read)

abbrev Breaks19 : Sequence ℕ → Kind → ℕ → Faults
Breaks19 q k n = Bad 19 q.residues.place (fewest k ≤ n)

-- of a sequence of the kind k with n defined residues they are all
module _ (q : Sequence ℕ) (k : Kind) (i : IsKind k q) {n : ℕ} (c : Count (λ (b : ℕ). ¬ (b ≡ undefined k)) q.residues.read n) where
  to_residues : (m p : ℕ) → ◌or◌ (Breaks18 q k) (Breaks19 q k n) m p → InResidues q m p
  to_residues m p (inl y) = rw (y.0, y.1) (rule_18 k i y.2)
  to_residues m p (inr y) = rw (y.0, y.1) (rule_19 k i n c (omega (arith, y.2)))

  of_residues : (m p : ℕ) → InResidues q m p → ◌or◌ (Breaks18 q k) (Breaks19 q k n) m p
  of_residues m p (rule_18 j g h) =
      subst (λ (z : Kind). ◌or◌ (Breaks18 q z) (Breaks19 q k n) m p) (kind_once q.moltype.read j k g i) (inl (refl, refl, h))
  of_residues m p (rule_19 j g l d h) =
      let e = kind_once q.moltype.read j k g i in
      let d' = subst (λ (z : Kind). Count (λ (b : ℕ). ¬ (b ≡ undefined z)) q.residues.read l) e d in
      inr (refl, refl, λ y. omega (arith, y, count_once d' c, subst (λ (z : Kind). l < fewest z) e h))

pub symbols_judged : {w : List ℕ} {known : Known} {none few : ℕ} (ok : Bool) {a b r : Fault} → HasDefined w none few ok
    → a ≡ unless_of (leb known.residues.to known.foreign) 18 known.foreign → b ≡ unless_of ok 19 known.residues.from → Earlier a b r
    → JudgesSymbols w known none few r
symbols_judged {known = known} ok d ea eb x =
    record {
      says =
          λ s q kn e k i u f.
          let v = q.residues.read in
          let n = d.says (subst (λ (z : ℕ). spell z ≡ z ∷ []) (sym u) (plain k)) v e in
          let c = subst (λ (z : ℕ). Count (λ (b : ℕ). ¬ (b ≡ z)) v n.0) u n.1 in
          let A = Breaks18 q k in
          let B = Breaks19 q k n.0 in
          let all_are = leb known.residues.to known.foreign in
          let fa : Firsts A _ = firsts_unless all_are 18 _ (symbols_told kn k i) (ea ∙ ap (unless_of all_are 18) (kn.foreign k i)) in
          let fb : Firsts B _ = firsts_unless ok 19 _ (subst (λ (z : ℕ). Tells ok (z ≤ n.0)) f n.2) (eb ∙ ap (unless_of ok 19) kn.residues.first) in
          firsts_as (◌or◌ A B) (InResidues q) (to_residues q k i c) (of_residues q k i c) (firsts_or A B fa fb x);
    }

-- the kind decides what is asked
pub residues_of_lem : (k : Kind) {s w : List ℕ} {known : Known} {c : code.Molecule} {none few : ℕ} {r : Fault} → known.kind ≡ c → none ≡ undefined k → few ≡ fewest k
    → ((v : List ℕ) → KindIs v c → Names v k) → ShowsBytes s known.residues.from known.residues.to w
    → JudgesSymbols w known none few r → JudgesResidues s known r
residues_of_lem k {s} z u f named h j =
    record { says = λ q kn. j.says s q kn (part_shows kn.residues h) k (named q.moltype.read (subst (KindIs q.moltype.read) z kn.kind)) u f }

-- ---- the others

pub number_judged : {s w : List ℕ} {number : Range} {k : ℕ} {ok : Bool} {r : Fault} → ShowsBytes s number.from number.to w → OfRead w (Number k) ok
    → r ≡ unless_of ok 15 number.from → JudgesNumber s number k r
number_judged {k = k} {ok = ok} h o e = record { says = λ t i. text_fault 15 (Number k) ok i h o e }

pub skipped_told : {s w : List ℕ} {residues : Range} (r : Bool) → ShowsBytes s residues.from residues.to w → Tells r (w ≡ bytes "000") → TellsSkipped s residues r
skipped_told r h t = record { says = λ q i. (tells_word (bytes "000") refl r t).says q.residues.read (part_shows i h) }

-- whether a moltype names a kind
named_one : (v : List ℕ) (c : code.Molecule) → KindIs v c → Tells (is_known c) ((k : Kind) × Names v k)
named_one v kind.Dna h = (dna, h)
named_one v kind.Rna h = (rna, h)
named_one v kind.Aa h = (aa, h)
named_one v kind.Other h = λ x. h x.0 x.1

pub texts_judged : {s wb wd : List ℕ} {declared moltype division : Range} {known : Known} {one right : Bool} (pat : Bool) {a b c d r : Fault} (e f : Fault)
    → one ≡ is_known known.kind
    → ShowsBytes s division.from division.to wb → Tells pat (wb ≡ bytes "PAT")
    → ShowsBytes s declared.from declared.to wd → OfRead wd (Number known.top) right
    → a ≡ unless_of one 16 moltype.from → b ≡ unless_of pat 17 division.from
    → JudgesResidues s known c
    → d ≡ unless_of right 20 declared.from → Earlier a b e → Earlier c d f → Earlier e f r → JudgesTexts s declared moltype division known r
texts_judged {known = known} {one} {right} pat {a} {b} {c} {d} {r} e f h1 sb tb sd td ea eb jr ed x y z =
    record {
      says =
          λ q id im ib k.
          let A = Bad 16 q.moltype.place ((j : Kind) × IsKind j q) in
          let B = Bad 17 q.division.place (q.division.read ≡ bytes "PAT") in
          let C = InResidues q in
          let D = Bad 20 q.declared.place (Number (L q) q.declared.read) in
          let fa = firsts_unless one 16 q.moltype.place {A = (j : Kind) × IsKind j q} (subst (λ (o : Bool). Tells o ((j : Kind) × IsKind j q)) (sym h1) (named_one q.moltype.read known.kind k.kind)) (ea ∙ ap (unless_of one 16) im.first) in
          let fb = text_fault 17 (λ (v : List ℕ). v ≡ bytes "PAT") pat ib sb (tells_word (bytes "PAT") refl pat tb) eb in
          let fc = jr.says q k in
          let fd = subst (λ (n : ℕ). Firsts (Bad 20 q.declared.place (Number n q.declared.read)) d) k.size (text_fault 20 (Number known.top) right id sd td ed) in
          firsts_as (◌or◌ (◌or◌ A B) (◌or◌ C D)) (InTexts q) (to q) (of q) (firsts_or (◌or◌ A B) (◌or◌ C D) (firsts_or A B fa fb x) (firsts_or C D fc fd y) z);
    }
  where
    to : (q : Sequence ℕ) (n p : ℕ)
        → ◌or◌ (◌or◌ (Bad 16 q.moltype.place ((j : Kind) × IsKind j q)) (Bad 17 q.division.place (q.division.read ≡ bytes "PAT")))
        (◌or◌ (InResidues q) (Bad 20 q.declared.place (Number (L q) q.declared.read))) n p → InTexts q n p
    to q n p (inl (inl x)) = rw (x.0, x.1) (rule_16 (λ j h. x.2 (j, h)))
    to q n p (inl (inr x)) = rw (x.0, x.1) (rule_17 x.2)
    to q n p (inr (inl x)) = residues x
    to q n p (inr (inr x)) = rw (x.0, x.1) (rule_20 x.2)

    of : (q : Sequence ℕ) (n p : ℕ) → InTexts q n p
        → ◌or◌ (◌or◌ (Bad 16 q.moltype.place ((j : Kind) × IsKind j q)) (Bad 17 q.division.place (q.division.read ≡ bytes "PAT")))
        (◌or◌ (InResidues q) (Bad 20 q.declared.place (Number (L q) q.declared.read))) n p
    of q n p (rule_16 h) = inl (inl (refl, refl, λ x. h x.0 x.1))
    of q n p (rule_17 h) = inl (inr (refl, refl, h))
    of q n p (residues x) = inr (inl x)
    of q n p (rule_20 h) = inr (inr (refl, refl, h))
