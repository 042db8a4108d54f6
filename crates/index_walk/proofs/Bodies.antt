-- A body: its head, and then the entries of its features, each behind what was laid before.
use Rattle.std.proofs.Common.{◌≡◌, ℕ, ◌+◌, ◌%◌, ◌^◌, ◌≤◌, Bool, true, false, List, [], ◌∷◌, ◌++◌, length, sym, refl, ap, ◌∙◌, subst, append-nil, arith, length-append}
use mathlib.Core.Option.{Option, none, some}
use Rattle.std.specs.Prelude.{Some, None}
use Rattle.paper.specs.Bytes.{bytes, is_blank}
use Rattle.paper.specs.Lists.{gather}
use Rattle.paper.specs.Tree.{Feature, Table, Sequence, features_in, features_of}
use Rattle.paper.specs.Layout.{child, feature}
use Rattle.paper.specs.Answers.{limit}
use Rattle.paper.specs.Index.{little_end, in_bytes, size_of, place_and_length, kind_in, feature_entry, body_of}
use Rattle.paper.proofs.Lists.{gather_append, gather_last}
use Rattle.paper.proofs.Index.{is_skipped_lem, kind_skipped, kind_none, unskipped}
use Rattle.lent_room.specs.Room.{Laid, LaysMore}
use Rattle.lent_room.specs.declared.Pass.{Pass}
use Rattle.lent_room.proofs.Passes.{more_none, more_then}
use Rattle.read_steps.specs.Follow.{Not, closing}
use Rattle.walk_steps.specs.Stands.{IsPart, Over, TellsChild}
use Rattle.walk_items.specs.Items.{MeetsFeature, PassesFeature, TableIs, IsSequence}
use Rattle.walk_items.specs.declared.FoundFeature.{FoundFeature}
use Rattle.walk_items.specs.declared.FoundSequence.{FoundSequence}
use Rattle.walk_items.specs.declared.FoundTable.{FoundTable}
use Rattle.walk_items.proofs.Sequences.{feature_leads}
use Rattle.judge_faults.proofs.Seen.{Seen, seen_none, seen_next, seen_stuck, seen_all}
use Rattle.index_walk.specs.Bodies.{IsEntry, KindOfBody, IsHead, InWord, LaidNumbers, LaysFeatures, LaysBody}
use Rattle.index_walk.specs.declared.Sized.{Sized}

-- ---- numbers behind numbers

pub numbers_none : {p : Pass} {was : Laid} {given room : List ℕ} → LaidNumbers p [] was given room (record { laid = was; size = 0 }) room
numbers_none = record { laid = more_none; size = refl }

pub numbers_then : {p : Pass} (l k : List ℕ) {was mid : Laid} {given room now after : List ℕ} {r : Sized} {n : ℕ} → LaidNumbers p l was given room r now
    → LaysMore given (in_bytes k) p r.laid mid now after → n ≡ r.size + size_of k → LaidNumbers p (l ++ k) was given room (record { laid = mid; size = n }) after
numbers_then {p} l k {was} {mid} {given} {room} {after = after} f g e =
    record {
      laid = subst (λ (x : List ℕ). LaysMore given x p was mid room after) (sym (gather_append little_end l k)) (more_then f.laid g);
      size = omega (arith, e, f.size, length-append l k);
    }

-- ---- the features of a sequence

abbrev entries_of : List (Feature ℕ) → List ℕ
entries_of = gather feature_entry

-- the entries of l are laid
abbrev Done : Pass → Laid → (given room : List ℕ) → Laid → ℕ → List ℕ → List (Feature ℕ) → Type 0
Done p was given room laid size now l =
    InWord (size_of (entries_of l)) → LaidNumbers p (entries_of l) was given room (record { laid = laid; size = size }) now

-- those of the features passed are
pub record Featuring (p : Pass) (s : List ℕ) (first : ℕ) (was : Laid) (given room : List ℕ) (at : ℕ) (laid : Laid) (size : ℕ) (now : List ℕ) : Type 0 where
  pub kept : length now ≡ length room
  pub seen : length s ≤ limit → Seen (child feature) closing s first at (Done p was given room laid size now)

module _ {p : Pass} {s : List ℕ} {first : ℕ} {was : Laid} {given room : List ℕ} where
  pub featuring_none : Featuring p s first was given room first was 0 room
  featuring_none = record { kept = refl; seen = λ h. seen_none (child feature) closing first (Done p was given room was 0 room) (λ i. numbers_none) }

  module _ {at size : ℕ} {laid : Laid} {now : List ℕ} {t : Bool} (here : TellsChild s at t) (w : Featuring p s first was given room at laid size now) where
    module _ {g : FoundFeature} {next : ℕ} (h : t ≡ true) (f : MeetsFeature s at g) (o : PassesFeature s g next) where
      over : Over (child feature) (Not is_blank) s at next
      over = record { is = λ x e d fol. o.is x e (f x e d fol) fol }

      pub featuring_stuck : next ≤ at → LaysFeatures p s first was given room (record { laid = laid; size = size }) now
      featuring_stuck stuck =
          record {
            kept = w.kept;
            says =
                λ short l e d fol i.
                absurd
                (seen_stuck (bytes "INSDFeature") (child feature) feature_leads closing (record { clash = refl; sharps = refl }) (Done p was given room laid size now) h
                (here.tells (bytes "INSDFeature") refl) (w.seen short) over stuck l e d fol);
          }

      pub featuring_next : {numbers : List ℕ} {mid : Laid} {after : List ℕ} {n : ℕ} → IsEntry g.key g.location numbers
          → LaysMore given (in_bytes numbers) p laid mid now after → n ≡ (size + 16) % 2 ^ 64 → Featuring p s first was given room next mid n after
      featuring_next {numbers} {mid} {after} {n} entry more e =
          record {
            kept = more.kept ∙ w.kept;
            seen =
                λ short.
                seen_next (bytes "INSDFeature") (child feature) feature_leads closing (record { clash = refl; sharps = refl }) (Done p was given room laid size now) (Done p was given room mid n after) h
                (here.tells (bytes "INSDFeature") refl) (w.seen short) over
                (λ l x d st fol was-done i. one short l x (f x d st fol).key (f x d st fol).location was-done i);
          }
        where
          one : length s ≤ limit → (l : List (Feature ℕ)) (x : Feature ℕ) → IsPart s x.key g.key → IsPart s x.location g.location → Done p was given room laid size now l
              → Done p was given room mid n after (l ++ (x ∷ []))
          one short l x k y done i =
              let z = gather_last feature_entry l x in
              let u : InWord (size_of (entries_of l)) = omega (arith, i, ap length z, length-append (entries_of l) (feature_entry x)) in
              let r = done u in
              subst (λ (v : List ℕ). LaidNumbers p v was given room (record { laid = mid; size = n }) after) (sym z)
              (numbers_then (entries_of l) (feature_entry x) r (subst (λ (v : List ℕ). LaysMore given (in_bytes v) p laid mid now after) (entry.says s x short k y) more) (omega (arith, e, r.size, u)))

    pub featuring_done : t ≡ false → LaysFeatures p s first was given room (record { laid = laid; size = size }) now
    featuring_done h =
        record {
          kept = w.kept;
          says =
              λ short l e d fol.
              (seen_all (bytes "INSDFeature") (child feature) feature_leads closing (record { clash = refl; sharps = refl }) (Done p was given room laid size now) h
              (here.tells (bytes "INSDFeature") refl) (w.seen short) l e d fol).0;
        }

-- ---- a body

-- what a body starts with
abbrev head_of : Sequence ℕ → List ℕ
head_of q = kind_in q ∷ place_and_length q.residues

module _ {p : Pass} {s : List ℕ} {found : FoundSequence} {was mid : Laid} {given room now numbers : List ℕ} {kind : ℕ}
    (k : KindOfBody s found.moltype found.residues kind) (h : IsHead kind found.residues numbers) (m : LaysMore given (in_bytes numbers) p was mid room now) where
  kind_is_lem : (q : Sequence ℕ) (e : ℕ) → IsSequence s q e found → kind ≡ kind_in q
  kind_is_lem q e i = k.says q i.moltype i.residues

  head_laid : length s ≤ limit → (q : Sequence ℕ) (e : ℕ) → IsSequence s q e found → LaidNumbers p (head_of q) was given room (record { laid = mid; size = 12 }) now
  head_laid short q e i =
      let z : numbers ≡ head_of q = h.says s q.residues short i.residues ∙ ap (λ (n : ℕ). n ∷ place_and_length q.residues) (kind_is_lem q e i) in
      numbers_then [] (head_of q) numbers_none (subst (λ (v : List ℕ). LaysMore given (in_bytes v) p was mid room now) z m) refl

  -- no entries
  pub body_head : ((q : Sequence ℕ) (e : ℕ) → IsSequence s q e found → body_of q ≡ head_of q ++ []) → LaysBody p s found was given room (record { laid = mid; size = 12 }) now
  body_head bare =
      record {
        kept = m.kept;
        says =
            λ short q e i w.
            subst (λ (v : List ℕ). LaidNumbers p v was given room (record { laid = mid; size = 12 }) now) (sym (bare q e i ∙ append-nil (head_of q))) (head_laid short q e i);
      }

  pub skipped_none : kind ≡ 0 → (q : Sequence ℕ) (e : ℕ) → IsSequence s q e found → body_of q ≡ head_of q ++ []
  skipped_none z q e i = rw (is_skipped_lem q (kind_none q (sym (kind_is_lem q e i) ∙ z))) refl

  module _ (k≢0 : ¬ (kind ≡ 0)) where
    unskipped_body : (q : Sequence ℕ) (e : ℕ) → IsSequence s q e found → body_of q ≡ head_of q ++ entries_of (features_of q)
    unskipped_body q e i = unskipped q (λ x. k≢0 (kind_is_lem q e i ∙ kind_skipped q x))

    pub table_none : found.table ≡ None → (q : Sequence ℕ) (e : ℕ) → IsSequence s q e found → body_of q ≡ head_of q ++ []
    table_none z q e i = unskipped_body q e i ∙ ap (λ (l : List (Feature ℕ)). head_of q ++ entries_of l) (none_in q.table (subst (TableIs s q.table) z i.table))
      where
        none_in : (o : Option (Table ℕ)) → TableIs s o None → features_in o ≡ []
        none_in none t = refl
        none_in (some x) t = absurd t

    pub body_features : {t : FoundTable} {r : Sized} {n : ℕ} {after : List ℕ} → found.table ≡ Some t → LaysFeatures p s t.first mid given now r after
        → n ≡ (12 + r.size) % 2 ^ 64 → LaysBody p s found was given room (record { laid = r.laid; size = n }) after
    body_features {t} {r} {n} {after} z f e =
        record {
          kept = f.kept ∙ m.kept;
          says =
              λ short q d i w.
              let b = unskipped_body q d i in
              let u : InWord (size_of (entries_of (features_of q))) = omega (arith, w, ap length b, length-append (head_of q) (entries_of (features_of q))) in
              let y = in_table q.table (subst (TableIs s q.table) z i.table) short u in
              subst (λ (v : List ℕ). LaidNumbers p v was given room (record { laid = r.laid; size = n }) after) (sym b)
              (numbers_then (head_of q) (entries_of (features_of q)) (head_laid short q d i) y.laid (omega (arith, e, y.size, u)));
        }
      where
        in_table : (o : Option (Table ℕ)) → TableIs s o (Some t) → length s ≤ limit → InWord (size_of (entries_of (features_in o)))
            → LaidNumbers p (entries_of (features_in o)) mid given now r after
        in_table none h short u = absurd h
        in_table (some x) h short u = f.says short x.features h.stop h.features h.closes u
