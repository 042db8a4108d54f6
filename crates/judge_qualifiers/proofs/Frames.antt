-- Rule 27: the frame of a list of qualifiers, after one qualifier more.
use Rattle.walk_steps.specs.declared.Range.{Range}
use Rattle.std.specs.Prelude as rust
use Prim.Native.Nat.{ℕ}
use native.Mathlib.Omega.{arith}
use mathlib.Core.Path.{◌≡◌, subst}
use mathlib.Core.Logic.{◌⊎◌, inl, inr}
use mathlib.Core.List.{List, [], ◌∷◌, ◌++◌}
use Rattle.paper.specs.Lists.{◌∈◌, Count}
use Rattle.paper.specs.Tree.{Qualifier, Feature, qualifiers_of}
use Rattle.paper.specs.Rules.{Named, value_read, CodonStart, absent, stated}
use Rattle.paper.proofs.Lists.{count_once}
use Rattle.value_vocabulary.proofs.Keyed.{number_is, number_not}
use Rattle.judge_faults.proofs.Seen.{count_has, count_lacks}
use Rattle.judge_qualifiers.specs.Qualifiers.{Shown, StatesStart, StateIs, States, OneStart, NoStart, FrameIs, Frames}
use Rattle.judge_qualifiers.specs.Starts.{StartsAt}
use Rattle.judge_qualifiers.specs.declared.Frame.{Frame}
use Rattle.judge_qualifiers.specs.declared.Frame.TheVariants.{Unstated, Stated, Wrong}
use Rattle.judge_qualifiers.proofs.Lists.{in_last, in_front, in_split, count_last, count_front, none_of}

module _ (l : List (Qualifier ℕ)) (q : Qualifier ℕ) where
  -- a qualifier of another name
  module _ (n : ¬ Named "codon_start" q) where
    one_front : {m : ℕ} → OneStart (l ++ (q ∷ [])) m → OneStart l m
    one_front {m} o = record { one = count_front l q n o.one; which = o.which; member = inside (in_split l q o.member); named = o.named; states = o.states }
      where
        inside : (o.which ∈ l) ⊎ (o.which ≡ q) → o.which ∈ l
        inside (inl h) = h
        inside (inr e) = absurd (n (subst (Named "codon_start") e o.named))

    frame_lacks : (r : Frame) → FrameIs l r → FrameIs (l ++ (q ∷ [])) r
    frame_lacks Unstated h = count_lacks (Named "codon_start") l q h n
    frame_lacks (Stated m) h =
        record { one = count_lacks (Named "codon_start") l q h.one n; which = h.which; member = in_front l q h.which h.member; named = h.named; states = h.states }
    frame_lacks Wrong h = (λ c. h.0 (count_front l q n c), λ m o. h.1 m (one_front o))

  -- a codon_start
  module _ (n : Named "codon_start" q) where
    not_none : ¬ NoStart (l ++ (q ∷ []))
    not_none c = omega (arith, (count_last l q n c).2)

    -- it is the only one where none was before
    one_last : {m : ℕ} → OneStart (l ++ (q ∷ [])) m → NoStart l
    one_last o = let c = count_last l q n o.one in subst (Count (Named "codon_start") l) (omega (arith, c.2)) c.1

    frame_first : (r : Frame) → NoStart l → StateIs (value_read q) r → FrameIs (l ++ (q ∷ [])) r
    frame_first Unstated h v = absurd v
    frame_first (Stated m) h v = record { one = count_has (Named "codon_start") l q h n; which = q; member = in_last l q; named = n; states = v }
    frame_first Wrong h v = (not_none, λ m o. v m (subst (λ (y : Qualifier ℕ). StatesStart (value_read y) m) (last o (in_split l q o.member)) o.states))
      where
        last : {m : ℕ} (o : OneStart (l ++ (q ∷ [])) m) → (o.which ∈ l) ⊎ (o.which ≡ q) → o.which ≡ q
        last o (inl i) = absurd (none_of h i o.named)
        last o (inr e) = e

    -- or rule 27 is broken
    frame_more : ¬ NoStart l → FrameIs (l ++ (q ∷ [])) Wrong
    frame_more h = (not_none, λ m o. h (one_last o))

-- 9 is the number of codon_start
module _ {s : List ℕ} {number : ℕ} {value : rust.Option Range} where
  name_is : number ≡ 9 → (q : Qualifier ℕ) → Shown s number value q → Named "codon_start" q
  name_is e q h = number_is h.name 9 (omega arith) e

  pub frames_other : {frame : Frame} → ¬ (number ≡ 9) → Frames s frame number value frame
  frames_other {frame} e = record { says = λ q h l f. frame_lacks l q (number_not h.name 9 (omega arith) e) frame f }

  pub frames_first : {frame : Frame} (r : Frame) → number ≡ 9 → frame ≡ Unstated → States s value r → Frames s frame number value r
  frames_first r e u v = record { says = λ q h l f. frame_first l q (name_is e q h) r (subst (FrameIs l) u f) (v.says q.value h.valued) }

  pub frames_second : {frame : Frame} {n : ℕ} → number ≡ 9 → frame ≡ Stated n → Frames s frame number value Wrong
  frames_second {n = n} e u =
      record { says = λ q h l f. frame_more l q (name_is e q h) (λ c. let z : ◌≡◌ {A = ℕ} 0 1 = count_once c (subst (FrameIs l) u f).one in omega arith) }

  pub frames_third : {frame : Frame} → number ≡ 9 → frame ≡ Wrong → Frames s frame number value Wrong
  frames_third e u = record { says = λ q h l f. frame_more l q (name_is e q h) (subst (FrameIs l) u f).0 }

-- ---- of a feature

pub start_one : (f : Feature ℕ) {n : ℕ} → OneStart (qualifiers_of f) n → CodonStart f n
start_one f o = stated o.which o.one o.member o.named o.states.word o.states.is o.states.small o.states.number

pub start_wrong : (f : Feature ℕ) → FrameIs (qualifiers_of f) Wrong → (n : ℕ) → ¬ CodonStart f n
start_wrong f h n (absent c) = h.0 c
start_wrong f h n (stated q c m k w v o i) = h.1 n (record { one = c; which = q; member = m; named = k; states = record { word = w; is = v; small = o; number = i } })

module _ {frame : Frame} where
  pub starts_first : frame ≡ Unstated → StartsAt frame 1
  starts_first e = record { says = λ f h k. absent (subst (FrameIs (qualifiers_of f)) e h) }

  pub starts_stated : {n : ℕ} → frame ≡ Stated n → StartsAt frame n
  starts_stated e = record { says = λ f h k. start_one f (subst (FrameIs (qualifiers_of f)) e h) }

  -- rule 27 is broken
  pub starts_nowhere : {n : ℕ} → frame ≡ Wrong → StartsAt frame n
  starts_nowhere e = record { says = λ f h k. absurd (k (start_wrong f (subst (FrameIs (qualifiers_of f)) e h))) }
