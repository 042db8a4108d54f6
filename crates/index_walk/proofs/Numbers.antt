-- The numbers of an item, from the parts that the walk found.
use Rattle.std.proofs.Common.{◌≡◌, ℕ, ◌+◌, ◌-◌, ◌%◌, ◌≤◌, Bool, true, false, cond, List, [], ◌∷◌, length, drop, sym, refl, ap, ◌∙◌, arith, length-append, length-drop}
use Rattle.paper.specs.Bytes.{bytes, same, raw}
use Rattle.paper.specs.Tree.{Text, Sequence}
use Rattle.paper.specs.Rules.{dna, rna}
use Rattle.paper.specs.Answers.{limit}
use Rattle.paper.specs.Index.{is_skipped}
use Rattle.paper.proofs.Texts.{same_is, same_self}
use Rattle.read_steps.specs.Parts.{ShowsBytes}
use Rattle.value_words.specs.Reading.{Tells, KindIs, Moltypes}
use Rattle.value_words.specs.declared.Molecule.{Molecule}
use Rattle.value_words.specs.declared.Molecule.TheVariants.{Dna, Rna, Aa, Other}
use Rattle.walk_steps.specs.Stands.{IsPart}
use Rattle.walk_steps.specs.declared.Range.{Range}
use Rattle.judge_faults.proofs.Bytes.{part_shows}
use Rattle.judge_texts.specs.Texts.{TellsSkipped}
use Rattle.index_walk.specs.Bodies.{SizeOfPart, IsEntry, IsHead, KindOfBody}

-- a part of a listing has an end, and both are small
part_ends : {s : List ℕ} {t : Text ℕ} {p : Range} → length s ≤ limit → IsPart s t p
    → (p.from ≤ limit) × (length (raw t.read) ≤ limit) × (p.to ≡ p.from + length (raw t.read))
part_ends {s} {t} {p} h i = (
  omega (arith, h, i.inside),
  omega (arith, h, ap length i.here, length-append (raw t.read) (drop p.to s), length-drop p.from s),
  omega (arith, i.first, i.behind),
)

pub size_is : {p : Range} {n r : ℕ} → n ≡ p.to - p.from → r ≡ n % 4294967296 → SizeOfPart p r
size_is d e = record { says = λ s t h i. let x = part_ends h i in omega (arith, d, e, x.1, x.2) }

-- the place and the length of whichever text the part is
pair : {s : List ℕ} {t : Text ℕ} {p : Range} {a b : ℕ} → length s ≤ limit → IsPart s t p → a ≡ p.from % 4294967296 → SizeOfPart p b
    → (a ≡ t.place) × (b ≡ length (raw t.read))
pair {s} {t} h i e z = (omega (arith, e, (part_ends h i).0, i.first), z.says s t h i)

pub entry_is : {key location : Range} {a b c d : ℕ} → a ≡ key.from % 4294967296 → SizeOfPart key b → c ≡ location.from % 4294967296 → SizeOfPart location d
    → IsEntry key location (a ∷ b ∷ c ∷ d ∷ [])
entry_is ea zb ec zd =
    record {
      says =
          λ s f h i j.
          let x = pair h i ea zb in
          let y = pair h j ec zd in
          rw (x.0, x.1, y.0, y.1) refl;
    }

pub head_is : {kind : ℕ} {residues : Range} {a b : ℕ} → a ≡ residues.from % 4294967296 → SizeOfPart residues b → IsHead kind residues (kind ∷ a ∷ b ∷ [])
head_is ea zb = record { says = λ s t h i. let x = pair h i ea zb in rw (x.0, x.1) refl }

-- ---- the kind

-- two texts are the same exactly when a test tells so
told_same : (v x : List ℕ) (b : Bool) → Tells b (v ≡ x) → same v x ≡ b
told_same v x true e = rw e (same_self x)
told_same v x false n = other (same v x) refl
  where
    other : (t : Bool) → same v x ≡ t → t ≡ false
    other true e = absurd (n (same_is v x e))
    other false e = refl

-- the number of a kind that isn't skipped
abbrev pub kind_word : Molecule → ℕ
kind_word Dna = 1
kind_word Rna = 2
kind_word Aa = 3
kind_word Other = 3

named : (v : List ℕ) (c : Molecule) → KindIs v c → cond (same v (bytes "DNA")) 1 (cond (same v (bytes "RNA")) 2 3) ≡ kind_word c
named v Dna e = rw e refl
named v Rna e = rw e refl
named v Aa e = rw e refl
named v Other n = rw (told_same v (bytes "DNA") false (n dna), told_same v (bytes "RNA") false (n rna)) refl

module _ {s : List ℕ} {residues : Range} {b : Bool} (t : TellsSkipped s residues b) where
  skips : (q : Sequence ℕ) → IsPart s q.residues residues → is_skipped q ≡ b
  skips q j = told_same q.residues.read (bytes "000") b (t.says q j)

  pub kind_zero : {moltype : Range} → b ≡ true → KindOfBody s moltype residues 0
  kind_zero h = record { says = λ q i j. rw (skips q j ∙ h) refl }

  pub kind_named : b ≡ false → {moltype : Range} {m : List ℕ} {c d : Molecule} → ShowsBytes s moltype.from moltype.to m → Moltypes m c → c ≡ d → KindOfBody s moltype residues (kind_word d)
  kind_named h {c = c} w k e =
      record { says = λ q i j. rw (skips q j ∙ h) (ap kind_word (sym e) ∙ sym (named q.moltype.read c (k.says q.moltype.read (part_shows i w)))) }
