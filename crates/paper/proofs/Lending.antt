-- Request 7 of 02: how much room always suffices, for the spans of a feature and for translations.
use Prim.Native.Nat.{ℕ, suc, ◌+◌, ◌*◌, ◌-◌, ◌/◌, ◌%◌, ◌≤◌}
use Prim.Native.Char.{code}
use native.Mathlib.Omega.{arith}
use mathlib.Core.Path.{◌≡◌, refl, ap, subst}
use mathlib.Core.Bool.{Bool, true, false, cond}
use mathlib.Core.List.{List, [], ◌∷◌, ◌++◌, map, reverse}
use lib.ListN.{length, length-append, length-take, length-drop, length-map, length-reverse, drop}
use lib.Dec.{eqb}
use Rattle.paper.specs.Bytes.{bytes}
use Rattle.paper.specs.Tree.{Feature, Sequence, features_of}
use Rattle.paper.specs.Locations.{Location, Locates, Span, spans}
use Rattle.paper.specs.Translation.{Code, code1, complement_of, stretch, residues_of, coding_text, letters, drop_stop}
use Rattle.paper.specs.Rules.{Judged}
use Rattle.paper.specs.Answers.{Outcome, refuse, give, Lent, Lines, FindsSequence, FindsFeature, FindsLocation, FindsTranslation, FindsTranslations, Translates, FeatureShown, triples, FeatureSays, TranslationSays, TranslationsSays}
use Rattle.paper.specs.Index.{WithIndex}
use Rattle.paper.specs.Demands.{spans_room, residues_named, translation_room, LinesRoom, FeatureFits, Request7}
use Rattle.paper.proofs.Texts.{raw_longer}
use Rattle.paper.proofs.Locate.{locates_once}
use Rattle.paper.proofs.Symbols.{symbols_most, spans_most}
use Rattle.paper.proofs.Refusals.{location_other, translation_other, translations_other, index_check_other, location_refused, refusal_some}
use Rattle.paper.proofs.Demands.{text_stated}

-- with an index: the checker's refusal, or as without
with_index_fits : {w x : List ℕ} {n p : ℕ} {nothing plain : Type 0} → n ≡ 34 → ¬ plain → ¬ WithIndex w x n p nothing plain
with_index_fits e h (WithIndex.refused c z) = index_check_other c e
with_index_fits e h (WithIndex.taken c s) = h s

-- ---- spans

pub triples_size : (l : List Span) → length (triples l) ≡ length l * 3
triples_size [] = refl
triples_size (x ∷ l) = omega (arith, triples_size l)

-- the room that the feature asked for needs at most, whichever it is
module _ (w : List ℕ) (k j : ℕ) (out : List ℕ)
    (room : (s : Sequence ℕ) (f : Feature ℕ) → FindsFeature w k j (give (s, f)) → spans_room (length f.location.read) ≤ length out) where
  not_short : {n p : ℕ} {x : FeatureShown} {after : List ℕ} → n ≡ 34 → ¬ FeatureSays w k j out n p x after
  not_short e (FeatureSays.refused c) = location_other c e
  not_short e (FeatureSays.short {f = f} {t = t} (FindsLocation.location {s = s} c h) l) =
      omega (arith, l, triples_size (spans t), spans_most h, room s f c)
  not_short e (FeatureSays.found c l) = omega (arith, e)

  feature_fits : FeatureFits w k j out
  feature_fits = record { plain = λ p x after. not_short refl; indexed = λ y p x after. with_index_fits refl (not_short refl) }

answered : {w : List ℕ} {k j n p : ℕ} {x : FeatureShown} {out after : List ℕ} → n ≡ 0 → FeatureSays w k j out n p x after
    → x.count ≤ (x.location.size + 1) / 2
answered e (FeatureSays.refused c) = absurd (refusal_some (location_refused c) e)
answered e (FeatureSays.short c l) = absurd (omega (arith, e))
answered e (FeatureSays.found {f = f} (FindsLocation.location c h) l) =
    let longer = raw_longer f.location.read in
    omega (arith, spans_most h, longer)

-- ---- translations

stretch_most : (s : List ℕ) (a b : ℕ) → length (stretch s a b) ≤ suc b - a
stretch_most s a b = omega (arith, length-take (suc b - a) (drop (a - 1) s))

residues_most : (s : List ℕ) (x : Span) → length (residues_of s x) ≤ suc x.last - x.first
residues_most s x = go (eqb (x.marks % 2) 1)
  where
    go : (b : Bool) → length (cond b (reverse (map complement_of (stretch s x.first x.last))) (stretch s x.first x.last)) ≤ suc x.last - x.first
    go true =
        let here = stretch s x.first x.last in
        omega (arith, stretch_most s x.first x.last, length-reverse (map complement_of here), length-map here complement_of)
    go false = stretch_most s x.first x.last

coding_most : (s : List ℕ) (l : List Span) → length (coding_text s l) ≤ residues_named l
coding_most s [] = omega arith
coding_most s (x ∷ l) = omega (arith, length-append (residues_of s x) (coding_text s l), residues_most s x, coding_most s l)

letters_most : (g : Code) (w : List ℕ) → 3 * length (letters g w) ≤ length w
letters_most g [] = omega arith
letters_most g (a ∷ []) = omega arith
letters_most g (a ∷ b ∷ []) = omega arith
letters_most g (a ∷ b ∷ c ∷ w) = omega (arith, letters_most g w)

drop_stop_most : (x : List ℕ) → length (drop_stop x) ≤ length x
drop_stop_most [] = omega arith
drop_stop_most (x ∷ []) = go (eqb x (code "*"))
  where
    go : (b : Bool) → length (cond b [] (x ∷ [])) ≤ 1
    go true = omega arith
    go false = omega arith
drop_stop_most (x ∷ y ∷ l) = omega (arith, drop_stop_most (y ∷ l))

judged_most : {s : Sequence ℕ} {f : Feature ℕ} {x : List ℕ} {t : Location} → Judged s f x → Locates t f.location.read
    → length (drop_stop x) ≤ translation_room (spans t)
judged_most {s} {f} {x} {t} j h =
    let c = j.codons in
    let coding = coding_text s.residues.read (spans c.location) in
    let same = ap (λ (u : Location). residues_named (spans u)) (locates_once c.location t c.located h) in
    omega (
      arith,
      drop_stop_most x,
      ap length c.are,
      letters_most code1 (drop (c.start - 1) coding),
      length-drop (c.start - 1) coding,
      coding_most s.residues.read (spans c.location),
      same,
    )

-- lent room that is enough for what is to be written is not short of it
lent_fits : {n p size : ℕ} {after : List ℕ} (out : List ℕ) (o : Outcome (List ℕ)) → n ≡ 34 → ((m q : ℕ) → o ≡ refuse m q → ¬ (m ≡ 34))
    → ((x : List ℕ) → o ≡ give x → length x ≤ length out) → ¬ Lent out o n p size after
lent_fits out (refuse n p) e h k Lent.refused = h n p refl e
lent_fits out (give x) e h k (Lent.short l) = omega (arith, l, k x refl)
lent_fits out (give x) e h k (Lent.written l) = omega (arith, e)

module _ (w : List ℕ) (k j : ℕ) (out : List ℕ)
    (room : (f : Feature ℕ) (t : Location) → FindsLocation w k j (give (f, t)) → translation_room (spans t) ≤ length out) where
  translation_most : (x : List ℕ) → FindsTranslation w k j (give x) → length x ≤ length out
  translation_most x (FindsTranslation.feature {f = f} c (Translates.translation y i)) =
      let z = y.codons in
      omega (arith, judged_most y z.located, room f z.location (FindsLocation.location c z.located))

  translation_fits : {n p size : ℕ} {after : List ℕ} → n ≡ 34 → ¬ TranslationSays w k j out n p size after
  translation_fits e c =
      lent_fits out c.outcome e (λ m q i. translation_other (subst (FindsTranslation w k j) i c.finds))
      (λ x i. translation_most x (subst (FindsTranslation w k j) i c.finds)) c.lent

-- ---- lines

lines_most : {s : Sequence ℕ} {l : List (Feature ℕ)} {x : List ℕ} {n : ℕ} → Lines s l x → LinesRoom s l n → length x ≤ n
lines_most Lines.end LinesRoom.end = omega arith
lines_most (Lines.no_cds a r) (LinesRoom.no_cds d t) = lines_most r t
lines_most (Lines.no_cds a r) (LinesRoom.cds h t) = omega (arith, lines_most r t)
lines_most (Lines.unjudged (Translates.unjudged c u) r) (LinesRoom.no_cds d t) = absurd (d c)
lines_most (Lines.unjudged a r) (LinesRoom.cds h t) = omega (arith, lines_most r t)
lines_most (Lines.stop_inside (Translates.stop_inside y i) r) (LinesRoom.no_cds d t) = absurd (d y.coding)
lines_most (Lines.stop_inside a r) (LinesRoom.cds h t) = omega (arith, lines_most r t)
lines_most (Lines.translation (Translates.translation y i) r) (LinesRoom.no_cds d t) = absurd (d y.coding)
lines_most (Lines.translation {x = x} {y = z} (Translates.translation y i) r) (LinesRoom.cds h t) =
    omega (arith, judged_most y h, length-append z (bytes "\n" ++ x), lines_most r t)

module _ (w : List ℕ) (k n : ℕ) (out : List ℕ) (room : (s : Sequence ℕ) → FindsSequence w k (give s) → LinesRoom s (features_of s) n) (fits : n ≤ length out) where
  translations_most : (x : List ℕ) → FindsTranslations w k (give x) → length x ≤ length out
  translations_most x (FindsTranslations.translations {s = s} c l) = omega (arith, lines_most l (room s c), fits)

  translations_fit : {m p size : ℕ} {after : List ℕ} → m ≡ 34 → ¬ TranslationsSays w k out m p size after
  translations_fit e c =
      lent_fits out c.outcome e (λ m q i. translations_other (subst (FindsTranslations w k) i c.finds))
      (λ x i. translations_most x (subst (FindsTranslations w k) i c.finds)) c.lent

pub request7 : Request7
request7 =
    record {
      bound = λ t w x. omega (arith, spans_most x);
      room = feature_fits;
      room_shown = λ w k j out h. feature_fits w k j out (λ s f c. omega (arith, h s f c, raw_longer f.location.read));
      room_listing =
          λ w k j out h.
          feature_fits w k j out (λ s f c. omega (arith, h, raw_longer f.location.read, (text_stated c f.location (1, refl)).inside));
      symbols = λ t w x. symbols_most x;
      answered = λ w k j p x out after c. answered refl c;
      translation =
          λ w k j out h.
          record {
            plain = λ p z after. translation_fits w k j out h refl;
            indexed = λ y p z after. with_index_fits refl (translation_fits w k j out h refl);
          };
      translations =
          λ w k n out h i.
          record {
            plain = λ p z after. translations_fit w k n out h i refl;
            indexed = λ y p z after. with_index_fits refl (translations_fit w k n out h i refl);
          };
    }
