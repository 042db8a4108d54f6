-- The whole region and its first fault.
use Rattle.std.specs.Prelude as rust
use Prim.Native.Nat.{ℕ, suc, ◌≤◌, ◌<◌}
use native.Mathlib.Omega.{arith}
use mathlib.Core.Path.{◌≡◌, refl, sym, ap, ◌∙◌, subst, subst₂}
use mathlib.Core.Bool.{Bool, true, false, true≢false}
use mathlib.Core.Logic.{◌⊎◌, inl, inr}
use mathlib.Core.List.{List}
use mathlib.Core.Option.{Option, some}
use lib.ListN.{length}
use Rattle.paper.specs.Bytes.{raw, all}
use Rattle.paper.specs.Lists.{◌∈◌}
use Rattle.paper.specs.Tree.{Qualifier, Feature, Sequence, qualifiers_of}
use Rattle.paper.specs.Locations.{Location, Locates, breaks25}
use Rattle.paper.specs.Translation.{Code, code1, drop_stop, has_stop_inside}
use Rattle.paper.specs.Rules.{L, Kind, is_symbol, value_place, Before, CodonStart, Judged, InCoding, rule_27, rule_28}
use Rattle.paper.specs.Answers.{Translates}
use Rattle.std.specs.Prelude.{None, Some}
use Rattle.paper.proofs.Locate.{locates_once}
use Rattle.paper.proofs.Once.{translates_once}
use Rattle.read_steps.specs.Parts.{ShowsBytes}
use Rattle.value_words.proofs.Read.{raw_symbols}
use Rattle.value_words.proofs.Tests.{tells_true, tells_false}
use Rattle.walk_steps.specs.declared.Range.{Range}
use Rattle.location_judge.specs.Judging.{JudgedText as Placed}
use Rattle.location_judge.specs.declared.judging.Facts.{Facts}
use Rattle.protein_code.specs.Tables.{code_of}
use Rattle.protein_codons.specs.Reading.{Codes}
use Rattle.protein_codons.specs.Letters.{letters_of}
use Rattle.judge_faults.specs.Sets.{Fault, fault_at, Firsts, InSome}
use Rattle.judge_faults.proofs.Symbols.{symbols_all, symbols_not}
use Rattle.judge_faults.specs.Known.{Knows}
use Rattle.judge_faults.specs.declared.Known.{Known}
use Rattle.judge_faults.proofs.Bytes.{part_shows}
use Rattle.judge_faults.proofs.Faults.{firsts_none, firsts_as}
use Rattle.judge_qualifiers.specs.Qualifiers.{FrameIs, RestIs, LeavesOut}
use Rattle.judge_coding.specs.Translations.{Breaks28, Rights}
use Rattle.judge_coding.specs.declared.Codons.{Codons}
use Rattle.judge_coding.specs.Coding.{Asked, JudgesCoding, JudgesRegion}
use Rattle.judge_qualifiers.specs.declared.Frame.TheVariants.{Wrong}
use Rattle.judge_qualifiers.specs.declared.Noted.{Noted}
use Rattle.judge_qualifiers.proofs.Frames.{start_wrong}
use Rattle.judge_qualifiers.proofs.Lists.{in_behind, in_either}

-- ---- rule 28 of the region

-- whichever letters are meant, a translation is right of the ones where it is right of the others
agree : {q : Sequence ℕ} {f : Feature ℕ} {x y : List ℕ} {v : Option (List ℕ)} → Judged q f x → Judged q f y
    → (v ≡ some (drop_stop x)) × (has_stop_inside x ≡ false) → (v ≡ some (drop_stop y)) × (has_stop_inside y ≡ false)
agree {q} {f} {x} {y} {v} j k h = by (has_stop_inside y) refl
  where
    by : (b : Bool) → has_stop_inside y ≡ b → (v ≡ some (drop_stop y)) × (has_stop_inside y ≡ false)
    by true e =
        let o = translates_once (Translates.stop_inside k e) (Translates.translation j h.1) in
        let z : ◌≡◌ {A = ℕ} 0 1 = cc in
        absurd (omega arith)
    by false e =
        let o = translates_once (Translates.translation k e) (Translates.translation j h.1) in
        let d : drop_stop y ≡ drop_stop x = cc in
        (h.0 ∙ ap some (sym d), e)

module _ {q : Sequence ℕ} {f : Feature ℕ} {start : ℕ} (starts : CodonStart f start) where
  -- nothing is broken where it isn't judged
  none_judged : ((x : List ℕ) → ¬ Judged q f x) → Firsts (InCoding q f) None
  none_judged h = firsts_none (InCoding q f) not_broken
    where
      not_broken : (n p : ℕ) → ¬ InCoding q f n p
      not_broken n p (rule_27 c k) = k start starts
      not_broken n p (rule_28 x j y m i k) = h x j

  -- it is judged by the qualifiers from the first translation on
  judged_as : {s x : List ℕ} {rest stop : ℕ} {r : Fault} → Judged q f x → (t : RestIs s rest (qualifiers_of f) stop) → Firsts (InSome (Breaks28 x) t.back) r → Firsts (InCoding q f) r
  judged_as {x = x} j t = firsts_as (InSome (Breaks28 x) t.back) (InCoding q f) to of
    where
      to : (n p : ℕ) → InSome (Breaks28 x) t.back n p → InCoding q f n p
      to n p b =
          let y = b.1 in
          let u = b.3 in
          let m = subst (λ (l : List (Qualifier ℕ)). y ∈ l) (sym t.is) (in_behind t.front t.back y (b.2.0, b.2.2)) in
          subst₂ (InCoding q f) (sym u.0) (sym u.1) (rule_28 x j y m u.2 u.3)

      of : (n p : ℕ) → InCoding q f n p → InSome (Breaks28 x) t.back n p
      of n p (rule_27 c k) = absurd (k start starts)
      of n p (rule_28 z i y m d k) = behind (in_either t.front t.back y (subst (λ (l : List (Qualifier ℕ)). y ∈ l) t.is m))
        where
          behind : (y ∈ t.front) ⊎ (y ∈ t.back) → InSome (Breaks28 x) t.back 28 (value_place y.value y.name)
          behind (inl a) = absurd (t.none y a d)
          behind (inr a) = (suc a.0, y, (a.0, refl, a.1), (refl, refl, d, λ h. k (agree j i h)))

-- what was found of it: residues that are symbols, and the location, as they are written
module _ {s r : List ℕ} {known : Known} {q : Sequence ℕ} (k : Knows s q known) where
  pub residues_read : ShowsBytes s known.residues.from known.residues.to r → (c : Kind) → all (is_symbol c) q.residues.read → r ≡ q.residues.read
  residues_read shown c sy = part_shows k.residues shown ∙ raw_symbols c q.residues.read sy

  pub found_codes : {loc v : List ℕ} {t : Location} → loc ≡ raw v → r ≡ q.residues.read → Locates t v → breaks25 (L q) t ≡ false → Codes r loc known.top t
  found_codes {v = v} {t = t} el er l b =
      record { sized = ap length er ∙ sym k.size; read = v; written = el; located = l; right = ap (λ (n : ℕ). breaks25 n t) k.size ∙ b }

module _ {s : List ℕ} {location : Range} {rest : ℕ} {known : Known} {verdict : rust.Option Facts} {start : ℕ} {u : Bool} where
  pub region_unjudged : u ≡ true → JudgesRegion s location rest known verdict start u None
  region_unjudged e = record { says = λ key q f stop a l c t. none_judged c (λ x j. j.judged (tells_true u e t)) }

  pub region_unclean : known.foreign < known.residues.to → JudgesRegion s location rest known verdict start u None
  region_unclean e = record { says = λ key q f stop a l c t. none_judged c (λ x j. symbols_not a.knows j.coding.kind j.coding.is e j.symbols) }

  pub region_bad : verdict ≡ None → JudgesRegion s location rest known verdict start u None
  region_bad e =
      record { says = λ key q f stop a l c t. none_judged c (λ x j. subst (Placed (L q) f.location.read) e a.judged j.codons.location j.codons.located) }

  module _ {x : Facts} (e : verdict ≡ Some x) where
    pub region_outside : x.wrong ≡ true → JudgesRegion s location rest known verdict start u None
    region_outside w =
        record {
          says =
              λ key q f stop a l c t.
              none_judged c
              (λ z j.
              let k = subst (Placed (L q) f.location.read) e a.judged in
              let o = locates_once k.0 j.codons.location k.1 j.codons.located in
              true≢false (sym w ∙ k.2.wrong ∙ ap (breaks25 (L q)) o ∙ j.codons.inside));
        }

module _ {c : Codons} {location : Range} {rest : ℕ} {known : Known} {verdict : rust.Option Facts} {u : Bool} {x : Facts} (e : verdict ≡ Some x) where
  pub region_judged : {y : Fault} → code_of c.of.code.now ≡ code1 → c.of.top ≡ known.top → u ≡ false → known.residues.to ≤ known.foreign → x.wrong ≡ false
      → ShowsBytes c.s.now known.residues.from known.residues.to c.of.r.now → ShowsBytes c.s.now location.from location.to c.of.loc.now
      → Rights c rest y → JudgesRegion c.s.now location rest known verdict c.of.frame u y
  region_judged code top d g w shr shl rights =
      record {
        says =
            λ key q f stop a l n t.
            let k = subst (Placed (L q) f.location.read) e a.judged in
            let sy : all (is_symbol a.coding.kind) q.residues.read = symbols_all a.knows a.coding.kind a.coding.is g in
            let er = residues_read a.knows shr a.coding.kind sy in
            let b : breaks25 (L q) k.0 ≡ false = sym k.2.wrong ∙ w in
            let codes = found_codes a.knows (part_shows a.located shl) er k.1 b in
            judged_as n
            (record {
              coding = a.coding;
              symbols = sy;
              judged = tells_false u d t;
              codons =
                  record {
                    location = k.0;
                    located = k.1;
                    inside = b;
                    start = c.of.frame;
                    starts = n;
                    are =
                        ap (λ (z : Code). letters_of z c.of.r.now c.of.frame k.0) code
                        ∙ ap (λ (z : List ℕ). letters_of code1 z c.of.frame k.0) er;
                  };
            })
            l (rights.says k.0 (subst (λ (n : ℕ). Codes c.of.r.now c.of.loc.now n k.0) (sym top) codes) l.back stop l.stands a.closes);
      }

-- ---- the region

module _ {s : List ℕ} {key : ℕ} {location : Range} {known : Known} {verdict : rust.Option Facts} {x : Noted} {u : Bool} (leaves : LeavesOut x.excepted verdict u) where
  pub coding_framed : {start : ℕ} {y : Fault} → ((f : Feature ℕ) → FrameIs (qualifiers_of f) x.frame → CodonStart f start)
      → JudgesRegion s location x.rest known verdict start u y → JudgesCoding s key location x known verdict (record { fault = y; unjudged = u })
  coding_framed g r =
      record {
        says =
            λ upper row t q f stop a n.
            let t = leaves.says (L q) f n.says.left a.judged in
            record { fault = r.says key q f stop a n.rest (g f n.says.framed) t; unjudged = t };
      }

  pub coding_wrong : x.frame ≡ Wrong → JudgesCoding s key location x known verdict (record { fault = fault_at 27 key; unjudged = u })
  coding_wrong e =
      record {
        says =
            λ upper row t q f stop a n.
            let z = start_wrong f (subst (FrameIs (qualifiers_of f)) e n.says.framed) in
            record {
              fault = record { is = record { broken = subst (InCoding q f 27) (sym a.at) (rule_27 a.coding z); least = least q f a z } };
              unjudged = leaves.says (L q) f n.says.left a.judged;
            };
      }
    where
      least : (q : Sequence ℕ) (f : Feature ℕ) {stop : ℕ} → Asked s key location known verdict q f stop → ((n : ℕ) → ¬ CodonStart f n)
          → (m p : ℕ) → InCoding q f m p → Before 27 key m p
      least q f a z m p (rule_27 c k) = inr (a.at, omega arith)
      least q f a z m p (rule_28 y j w i d k) = absurd (z j.codons.start j.codons.starts)
