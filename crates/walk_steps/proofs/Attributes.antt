-- An attribute, and one that may be missing, found again.
use Rattle.std.proofs.Common.{◌≡◌, ℕ, ◌+◌, ◌<◌, Bool, true, false, List, [], ◌∷◌, ◌++◌, length, drop, sym, refl, ap, ◌∙◌, arith, drop-drop}
use Rattle.std.specs.Prelude.{Some, None}
use mathlib.Core.Option.{Option}
use lib.Seq.{drop-append_seam}
use Rattle.paper.specs.Bytes.{bytes, is_blank, is_printed, all}
use Rattle.paper.specs.Form.{these, lit, ◌·◌}
use Rattle.paper.specs.Tree.{Text}
use Rattle.paper.specs.Layout.{gap, text, attribute, attribute?}
use Rattle.read_bytes.specs.Words.{There}
use Rattle.read_bytes.proofs.Words.{stands_long}
use Rattle.read_steps.specs.Follow.{Not, Starts, NoBlankFirst, sharp, skip}
use Rattle.read_steps.specs.Texts.{Scanned}
use Rattle.read_steps.proofs.Fronts.{leads_all, leads_sharp, named_sharp, gap_blank}
use Rattle.read_tags.proofs.Tags.{attribute_leads}
use Rattle.walk_steps.specs.Stands.{Stands, Past, others, IsMaybe, FindsAttribute, FindsAttributeMaybe}
use Rattle.walk_steps.specs.declared.Range.{Range}
use Rattle.walk_steps.specs.declared.Found.{Found}
use Rattle.walk_steps.proofs.Places.{part, these_inside, before, from, past_these, split, scan_end}
use Rattle.walk_steps.proofs.Leaves.{no_blank, text_found, free_quote}
use Rattle.walk_steps.proofs.Elements.{absent_by, present_by, starts_by}

-- ---- an attribute

pub attribute_found : (name : List ℕ) {s : List ℕ} {at h a b c n : ℕ} → Scanned is_blank s at (length s) h → Past s h (length name) a → Past s a 2 b
    → Scanned (others 34) s b (length s) c → Past s c 1 n → FindsAttribute name s at (record { part = record { from = b; to = c }; next = n })
attribute_found name {s} {at} sc p q sc2 o named t e d fol =
    let W = name ++ bytes "=\"" in
    let x = part (gap · these W · text is_printed t) (lit "\"") d in
    let y = part (gap · these W) (text is_printed t) x.1 in
    let z = part gap (these W) y.1 in
    let w = part (these name) (these (bytes "=\"")) (split name (bytes "=\"") z.2) in
    let eh = scan_end is_blank sc z.1.word (drop z.0 s) z.1.here (gap_blank at z.1.word z.1.laid)
    (name_sharp name named w.1) ∙ sym z.1.size in
    let ea = past_these name refl p (from eh w.1) in
    let eb = past_these (bytes "=\"") refl q (from ea w.2) in
    let f = text_found 34 free_quote is_printed t (omega (arith, eb, these_inside (bytes "=\"") w.2 (omega arith))) sc2 (from eb y.2) (before (Not (others 34)) x.2 (leads_sharp (others 34) (bytes "\"") (lit "\"") refl (leads_all (bytes "\"")) x.0 x.2.word (drop e s) x.2.laid)) in
    record { part = f.1; next = past_these (bytes "\"") refl o (from f.0 x.2) }
  where
    name_sharp : (k : List ℕ) → NoBlankFirst k → {at e : ℕ} → Stands (these k) s at e → Not is_blank (drop at s)
    name_sharp k h d = no_blank k (named_sharp k h) (leads_all k) d

-- ---- an attribute that may be missing

-- the blanks at the front, and what is left behind them
split_blanks : (z : List ℕ) → (w : List ℕ) × (z ≡ w ++ skip z) × all is_blank w × Not is_blank (skip z)
split_blanks [] = ([], refl, tt, tt)
split_blanks (b ∷ z) = by_byte (is_blank b) refl (split_blanks z)
  where
    by_byte : (t : Bool) → is_blank b ≡ t → (w : List ℕ) × (z ≡ w ++ skip z) × all is_blank w × Not is_blank (skip z)
        → (w : List ℕ) × (b ∷ z ≡ w ++ skip (b ∷ z)) × all is_blank w × Not is_blank (skip (b ∷ z))
    by_byte true h r = (b ∷ r.0, rw h (ap (λ (u : List ℕ). b ∷ u) r.1), (h, r.2), rw h r.3)
    by_byte false h r = ([], rw h refl, tt, rw h h)

-- past the blanks is where they are skipped
skip_at : {s : List ℕ} {at h : ℕ} → Scanned is_blank s at (length s) h → skip (drop at s) ≡ drop h s
skip_at {s} {at} c =
    let x = split_blanks (drop at s) in
    let size = scan_end is_blank c x.0 (skip (drop at s)) x.1 x.2 x.3 in
    sym (drop-append_seam x.0 (skip (drop at s))) ∙ ap (drop (length x.0)) (sym x.1) ∙ drop-drop (length x.0) at s ∙ ap (λ (i : ℕ). drop i s) (sym size)

named_long : (x : List ℕ) → NoBlankFirst x → 0 < length x
named_long [] n = absurd n
named_long (b ∷ x) n = omega arith

module _ (name : List ℕ) {s : List ℕ} {at h : ℕ} (c : Scanned is_blank s at (length s) h) where
  pub attribute_absent : {q : Bool} → q ≡ false → There name s h q → FindsAttributeMaybe name s at (record { part = None; next = at })
  attribute_absent k t named l other o e d fol =
      absent_by skip name (attribute name) (attribute_leads name (named_sharp name named)) (λ (i : Option (Text ℕ)) (j : ℕ). IsMaybe s i j (record { part = None; next = at }))
      (λ y g. t.no k (stands_long (named_long name named) y (sym (skip_at c) ∙ g))) (record { part = tt; next = refl }) o e d

  pub attribute_present : {q : Bool} {r : Found Range} → q ≡ true → There name s h q → FindsAttribute name s at r
      → FindsAttributeMaybe name s at (record { part = Some r.part; next = r.next })
  attribute_present {r = r} k t finds named l other =
      present_by skip name (attribute name) (attribute_leads name (named_sharp name named)) (λ (i : Option (Text ℕ)) (j : ℕ). IsMaybe s i j (record { part = Some r.part; next = r.next }))
      l other (drop (h + length name) s, skip_at c ∙ (t.yes k).here) (λ a j d n. let f = finds named a j d tt in record { part = f.part; next = f.next })

pub attribute_starts : (name : List ℕ) → sharp is_blank (name ∷ []) ≡ true → (l : List (List ℕ)) (o : Option (Text ℕ)) {s : List ℕ} {at e : ℕ}
    → Stands (attribute? name o) s at e → Starts l (skip (drop e s)) → Starts (name ∷ l) (skip (drop at s))
attribute_starts name n l o d fol = starts_by skip name (attribute name) (attribute_leads name n) l o d fol
