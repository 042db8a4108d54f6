-- One pass over the qualifiers of a feature, and where its codons start.
use Prim.Native.Nat.{ℕ, suc, ◌≤◌, ◌<◌}
use Prim.Native.String.{String}
use native.Mathlib.Omega.{arith}
use mathlib.Core.Path.{◌≡◌, refl, sym, subst}
use mathlib.Core.Bool.{Bool, true, false, cond}
use mathlib.Core.Logic.{◌⊎◌, inl, inr}
use mathlib.Core.List.{List, [], ◌∷◌, ◌++◌}
use lib.ListN.{length, get_or}
use lib.Dec.{eqb}
use borrow.Author.Tests.{eqb-true, eqb-false}
use Rattle.paper.specs.Lists.{◌∈◌, end}
use Rattle.paper.specs.Tree.{Qualifier}
use Rattle.paper.specs.Layout.{child, qualifier}
use Rattle.paper.specs.Rules.{Named, organism_name, mol_type_name}
use Rattle.read_steps.specs.Follow.{closing}
use Rattle.read_steps.specs.Parts.{ShowsBytes}
use Rattle.value_words.specs.Reading.{Tells}
use Rattle.value_vocabulary.specs.Tables.{name_texts, standing_at}
use Rattle.value_vocabulary.specs.Lookups.{NameNumber}
use Rattle.value_vocabulary.proofs.Keyed.{number_is, number_not}
use Rattle.walk_steps.specs.Stands.{TellsChild}
use Rattle.walk_items.specs.Items.{MeetsQualifier}
use Rattle.walk_items.specs.declared.FoundQualifier.{FoundQualifier}
use Rattle.judge_faults.specs.Counters.{up_to_two}
use Rattle.std.specs.Prelude.{None, unwrap_or}
use Rattle.std.specs.Prelude as rust
use Rattle.judge_faults.proofs.Bytes.{part_shows}
use Rattle.judge_faults.proofs.Counters.{capped_none, capped_more}
use Rattle.judge_faults.proofs.Seen.{seen_none, count_has, count_lacks}
use Rattle.judge_qualifiers.specs.Qualifiers.{OfName, Shown, Frames, Excepts, IsOrganism, IsMolType, Counted, Untranslated, translation_number, met_at, WithWord, NotedOf, Notes}
use Rattle.judge_qualifiers.specs.declared.Frame.{Frame}
use Rattle.judge_qualifiers.specs.declared.Frame.TheVariants.{Unstated}
use Rattle.judge_qualifiers.specs.declared.Noted.{Noted}
use Rattle.judge_qualifiers.specs.declared.Worded.{Worded}
use Rattle.judge_qualifiers.proofs.Lists.{in_split}
use Rattle.judge_qualifiers.proofs.Loops.{SeenSo, one_more, stuck, all_seen}
use Rattle.judge_qualifiers.proofs.Words.{words_none}

-- ---- one qualifier more

-- a number is that of one name
pub name_told : {number : ℕ} (n : ℕ) → n < length name_texts → OfName number (λ (v : List ℕ). v ≡ get_or name_texts n []) (eqb number n)
name_told {number} n h = go (eqb number n) refl
  where
    go : (b : Bool) → eqb number n ≡ b → OfName number (λ (v : List ℕ). v ≡ get_or name_texts n []) b
    go true e = record { says = λ v p. number_is p n h (eqb-true number n e) }
    go false e = record { says = λ v p. number_not p n h (eqb-false number n e) }

-- the number of an organism or a mol_type, in either case
pub organism_told : {number : ℕ} (upper : Bool) → OfName number (IsOrganism upper) (eqb number (cond upper 82 44))
organism_told true = name_told 82 (omega arith)
organism_told false = name_told 44 (omega arith)

pub mol_type_told : {number : ℕ} (upper : Bool) → OfName number (IsMolType upper) (eqb number (cond upper 83 38))
mol_type_told true = name_told 83 (omega arith)
mol_type_told false = name_told 38 (omega arith)

counted_none : (name : String) → Counted name [] 0
counted_none name = record { count = 0; is = end; capped = capped_none }

counted_more : (name : String) {n : ℕ} (l : List (Qualifier ℕ)) (q : Qualifier ℕ) (b : Bool) → Tells b (Named name q) → Counted name l n
    → Counted name (l ++ (q ∷ [])) (up_to_two b n)
counted_more name {n} l q true h c =
    record { count = suc c.count; is = count_has (Named name) l q c.is h; capped = capped_more c.count n c.capped }
counted_more name l q false h c = record { count = c.count; is = count_lacks (Named name) l q c.is h; capped = c.capped }

untranslated_more : (l : List (Qualifier ℕ)) (q : Qualifier ℕ) → Untranslated l → ¬ Named "translation" q → Untranslated (l ++ (q ∷ []))
untranslated_more l q u h x i = by (in_split l q i)
  where
    by : (x ∈ l) ⊎ (x ≡ q) → ¬ Named "translation" x
    by (inl j) = u x j
    by (inr e) = λ n. h (subst (Named "translation") e n)

-- ---- the loop

-- the qualifiers up to `at` say so, and those before the translation that was met, or before `at`, are no translations
pub record Noting (s : List ℕ) (first : ℕ) (upper : Bool) (row : ℕ) (t : List ℕ) (at : ℕ) (frame : Frame) (excepted : Bool) (organisms molTypes : ℕ) (words : Worded) (met : rust.Option ℕ) : Type 0 where
  pub noted : SeenSo s first at (NotedOf upper row t frame excepted organisms molTypes words)
  pub passed : SeenSo s first (unwrap_or met at) Untranslated

-- nothing was said yet
abbrev pub unworded : Worded
unworded = record { foreign = None; first = false; second = false }

pub noting_none : {s : List ℕ} (first : ℕ) (upper : Bool) (row : ℕ) (t : List ℕ) → Noting s first upper row t first Unstated false 0 0 unworded None
noting_none first upper row t =
    record {
      noted =
          seen_none (child qualifier) closing first (NotedOf upper row t Unstated false 0 0 unworded)
          (record {
            framed = end;
            left = λ x. x.1.1;
            organisms_are = counted_none (organism_name upper);
            mol_types_are = counted_none (mol_type_name upper);
            worded = λ st z. words_none st;
          });
      passed = seen_none (child qualifier) closing first Untranslated (λ q i. absurd i.1);
    }

module _ {s : List ℕ} {first at : ℕ} {upper : Bool} {row : ℕ} {t : List ℕ} {frame : Frame} {excepted : Bool} {organisms molTypes : ℕ} {words : Worded} {met : rust.Option ℕ} {h : Bool}
    (here : TellsChild s at h) (w : Noting s first upper row t at frame excepted organisms molTypes words met) where
  module _ {x : FoundQualifier} {n : List ℕ} {number : ℕ} (e : h ≡ true) (f : MeetsQualifier s at x) (shown : ShowsBytes s x.name.from x.name.to n) (numbers : NameNumber n number) where
    -- the place of the first translation stays
    met_more : (m : rust.Option ℕ) → SeenSo s first (unwrap_or m at) Untranslated → SeenSo s first (unwrap_or (met_at m number at) x.next) Untranslated
    met_more (rust.Some p) u = u
    met_more rust.None u = by (eqb number translation_number) refl
      where
        by : (b : Bool) → eqb number translation_number ≡ b → SeenSo s first (unwrap_or (cond b (rust.Some at) rust.None) x.next) Untranslated
        by true k = u
        by false k =
            one_more Untranslated Untranslated e here u f
            (λ l q i m u. untranslated_more l q u (number_not (numbers.says q.name.read (part_shows i shown)) translation_number (omega arith) (eqb-false number translation_number k)))

    pub noting_next : {a : Frame} {b : Bool} {u v : ℕ} {y : Worded} {m : rust.Option ℕ} (o d : Bool) → Frames s frame number x.value a → Excepts s excepted number x.value b
        → OfName number (IsOrganism upper) o → u ≡ up_to_two o organisms → OfName number (IsMolType upper) d → v ≡ up_to_two d molTypes
        → WithWord (standing_at t row number) x.name.from words y → m ≡ met_at met number at → Noting s first upper row t x.next a b u v y m
    noting_next {a} {b} {u} {v} {y} {m} o d g k to' eo td ed tw em =
        record {
          noted =
              one_more (NotedOf upper row t frame excepted organisms molTypes words) (NotedOf upper row t a b u v y) e here w.noted f
              (λ l q i j z.
              let p = numbers.says q.name.read (part_shows i shown) in
              let c : Shown s number x.value q = record { name = p; valued = j } in
              record {
                framed = g.says q c l z.framed;
                left = k.says q c l z.left;
                organisms_are = subst (Counted (organism_name upper) (l ++ (q ∷ []))) (sym eo) (counted_more (organism_name upper) l q o (to'.says q.name.read p) z.organisms_are);
                mol_types_are = subst (Counted (mol_type_name upper) (l ++ (q ∷ []))) (sym ed) (counted_more (mol_type_name upper) l q d (td.says q.name.read p) z.mol_types_are);
                worded = λ st by. tw.says st q (sym (by q.name.read number p)) i.first l (z.worded st by);
              });
          passed = subst (λ (m : rust.Option ℕ). SeenSo s first (unwrap_or m x.next) Untranslated) (sym em) (met_more met w.passed);
        }

  pub noting_stuck : {x : FoundQualifier} (r : Noted) → h ≡ true → MeetsQualifier s at x → x.next ≤ at → Notes s first upper row t r
  noting_stuck r e f n = record { is = λ l j d fol. absurd (stuck (NotedOf upper row t frame excepted organisms molTypes words) e here w.noted f n l j d fol) }

  pub noting_done : h ≡ false → Notes s first upper row t (record { frame = frame; excepted = excepted; organisms = organisms; moltypes = molTypes; words = words; rest = unwrap_or met at; next = at })
  noting_done e =
      record {
        is =
            λ l j d fol.
            let y = all_seen (NotedOf upper row t frame excepted organisms molTypes words) e here w.noted l j d fol in
            let z = w.passed.is l j d fol in
            record { says = y.0; rest = record { front = z.0; back = z.1; is = z.2; none = z.4; stands = z.3 }; next = y.1 };
      }
