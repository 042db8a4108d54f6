-- A tag, a text and a leaf found again, each from what is promised of its parts.
use Rattle.std.proofs.Common.{◌≡◌, ℕ, ◌+◌, ◌≤◌, Bool, true, false, not, List, [], ◌∷◌, ◌++◌, length, get_or, drop, sym, refl, ap, ◌∙◌, inl, inr, arith, get_or-drop}
use Rattle.paper.specs.Bytes.{bytes, all, raw, spell, is_blank}
use Rattle.paper.specs.Form.{Form, these, lit, ◌·◌}
use Rattle.paper.specs.Tree.{Text}
use Rattle.paper.specs.Layout.{blanks, text, tag, close, content, leaf, child}
use Rattle.paper.proofs.Texts.{spell_cases, raw_all}
use Rattle.read_steps.specs.Follow.{Not, Starts, anything, sharp}
use Rattle.read_steps.specs.Texts.{allowed_in, Scanned}
use Rattle.read_steps.proofs.Fronts.{Leads, leads_all, leads_starts, leads_sharp}
use Rattle.read_tags.proofs.Tags.{Body, Long, body_sharp, close_leads, long_leads}
use Rattle.walk_steps.specs.Stands.{Stands, Past, others, Ends, Finds, FindsContent, IsPart, IsFound, leaving}
use Rattle.walk_steps.specs.declared.Range.{Range}
use Rattle.walk_steps.specs.declared.Found.{Found}
use Rattle.walk_steps.proofs.Places.{part, join, these_inside, before, from, past_these, pasts, scan_end, run_ends}

-- ---- what a text starts with

-- a word that each text of F starts with
pub starts_at : (k : List ℕ) {F : Form} {s : List ℕ} {at e : ℕ} → Leads k F → Stands F s at e → Starts (k ∷ []) (drop at s)
starts_at k {F} {s} {at} {e} l d = before (Starts (k ∷ [])) d (leads_starts k F l at d.word (drop e s) d.laid)

-- what starts with such a word starts with no blank
pub no_blank : (k : List ℕ) {F : Form} {s : List ℕ} {at e : ℕ} → sharp is_blank (k ∷ []) ≡ true → Leads k F → Stands F s at e → Not is_blank (drop at s)
no_blank k {F} {s} {at} {e} h l d = before (Not is_blank) d (leads_sharp is_blank k F h l at d.word (drop e s) d.laid)

-- its first byte
pub first_byte : (b : ℕ) (k : List ℕ) {F : Form} {s : List ℕ} {at e : ℕ} → Leads (b ∷ k) F → Stands F s at e → get_or s at 0 ≡ b
first_byte b k {F} {s} {at} {e} l d =
    let y = l at d.word d.laid in
    ap (λ (i : ℕ). get_or s i 0) (omega arith) ∙ sym (get_or-drop at s 0 0) ∙ ap (λ (u : List ℕ). get_or u 0 0) (d.here ∙ ap (λ (u : List ℕ). u ++ drop e s) y.1)

-- ---- tags

pub tag_ends : {name s : List ℕ} {at a r : ℕ} → Past s at 1 a → Past s a (length name) r → Ends (tag name) anything s at r
tag_ends {name} p q = record { is = λ e d f. pasts (bytes "<") name refl p q d }

pub close_ends : {name s : List ℕ} {at a b h r : ℕ} → Past s at 2 a → Past s a (length name) b → Scanned is_blank s b (length s) h → Past s h 1 r
    → Ends (close name) anything s at r
close_ends {name} p q c o =
    record {
      is =
          λ e d f.
          let u = part (these (bytes "</" ++ name) · blanks) (lit ">") d in
          let v = part (these (bytes "</" ++ name)) blanks u.1 in
          let eh = (run_ends is_blank c).is u.0 (from (pasts (bytes "</") name refl p q v.1) v.2) (no_blank (bytes ">") refl (leads_all (bytes ">")) u.2) in
          past_these (bytes ">") refl o (from eh u.2);
    }

-- ---- texts

-- no text is written with `<` or `"`
pub free_lt : (b : ℕ) → all (others 60) (spell b)
free_lt =
    spell_cases (λ (b : ℕ) (w : List ℕ). all (others 60) w)
    (refl, (refl, (refl, (refl, tt)))) (refl, (refl, (refl, (refl, tt)))) (refl, (refl, (refl, (refl, (refl, tt)))))
    (refl, (refl, (refl, (refl, (refl, (refl, tt)))))) (refl, (refl, (refl, (refl, (refl, (refl, tt)))))) (λ b e f g h k. (ap not e, tt))

pub free_quote : (b : ℕ) → all (others 34) (spell b)
free_quote =
    spell_cases (λ (b : ℕ) (w : List ℕ). all (others 34) w)
    (refl, (refl, (refl, (refl, tt)))) (refl, (refl, (refl, (refl, tt)))) (refl, (refl, (refl, (refl, (refl, tt)))))
    (refl, (refl, (refl, (refl, (refl, (refl, tt)))))) (refl, (refl, (refl, (refl, (refl, (refl, tt)))))) (λ b e f g h k. (ap not h, tt))

-- so the first one behind a text's start is where it ends
pub text_found : (stop : ℕ) → ((b : ℕ) → all (others stop) (spell b)) → (allowed : ℕ → Bool) {s : List ℕ} {b c e : ℕ} (t : Text ℕ)
    → b ≤ length s → Scanned (others stop) s b (length s) c → Stands (text allowed t) s b e → Not (others stop) (drop e s) → (c ≡ e) × IsPart s t (record { from = b; to = c })
text_found stop free allowed {s} {b} {c} {e} t i sc d n =
    let r = raw t.read in
    let here : drop b s ≡ r ++ drop e s = d.here ∙ ap (λ (u : List ℕ). u ++ drop e s) d.laid.2 in
    let size : c ≡ b + length r = scan_end (others stop) sc r (drop e s) here (raw_all (others stop) free t.read) n in
    let end : c ≡ e = omega (arith, size, d.size, ap length d.laid.2) in (
      end,
      record {
        first = sym d.laid.0;
        behind = omega (arith, size, d.laid.0);
        inside = i;
        here = here ∙ ap (λ (k : ℕ). r ++ drop k s) (sym end);
      },
    )

module _ (name : List ℕ) (high : Bool) {s : List ℕ} {start at h : ℕ} (sc : Scanned is_blank s at (length s) h) where
  -- what stands behind the blanks
  body_at : (t : Text ℕ) (e : ℕ) → Stands (content name (allowed_in high) start t) s at e → Stands (Body name high start t) s h e
  body_at t e d =
      let u = part blanks (Body name high start t) d in
      from ((run_ends is_blank sc).is u.0 u.1 (before (Not is_blank) u.2 (body_sharp name high start t _ _ _ u.2.laid))) u.2

  pub short_found : {p n : ℕ} → p ≡ get_or s h 0 → p ≡ 47 → Past s h 2 n → start ≤ length s
      → Finds (content name (allowed_in high) start) anything s at (record { part = record { from = start; to = start }; next = n })
  short_found {p} {n} hp is q i t e d fol = let y = body_at t e d in by_kind y.word y.laid y.size y.here
    where
      by_kind : (w : List ℕ) → Body name high start t h w → e ≡ h + length w → drop h s ≡ w ++ drop e s
          → IsFound s t e (record { part = record { from = start; to = start }; next = n })
      by_kind w (inl l) z k =
          record {
            part =
                record {
                  first = sym l.0.0;
                  behind = omega (arith, l.0.0, ap (λ (c : List ℕ). length (raw c)) l.0.1);
                  inside = i;
                  here = ap (λ (c : List ℕ). raw c ++ drop start s) (sym l.0.1);
                };
            next = past_these (bytes "/>") refl q (record { word = w; laid = l.1; size = z; here = k });
          }
      by_kind w (inr l) z k =
          let g = first_byte 62 [] {F = Long name high t} (long_leads name high start t) (record { word = w; laid = l; size = z; here = k }) in
          let c : ◌≡◌ {A = ℕ} 47 62 = sym is ∙ hp ∙ g in
          absurd (omega arith)

  pub long_found : {p b c n : ℕ} → p ≡ get_or s h 0 → ¬ (p ≡ 47) → Past s h 1 b → Scanned (others 60) s b (length s) c
      → Ends (close name) anything s c n
      → Finds (content name (allowed_in high) start) anything s at (record { part = record { from = b; to = c }; next = n })
  long_found {p} {b} {c} {n} hp not q sc o t e d fol = let y = body_at t e d in by_kind y.word y.laid y.size y.here
    where
      by_kind : (w : List ℕ) → Body name high start t h w → e ≡ h + length w → drop h s ≡ w ++ drop e s
          → IsFound s t e (record { part = record { from = b; to = c }; next = n })
      by_kind w (inl l) z k =
          absurd (not (hp ∙ first_byte 47 (bytes ">") {F = lit "/>"} (leads_all (bytes "/>")) (record { word = w; laid = l.1; size = z; here = k })))
      by_kind w (inr l) z k =
          let u = part (lit ">" · text (allowed_in high) t) (close name) (record { word = w; laid = l; size = z; here = k }) in
          let v = part (lit ">") (text (allowed_in high) t) u.1 in
          let eb = past_these (bytes ">") refl q v.1 in
          let x = text_found 60 free_lt (allowed_in high) t (omega (arith, eb, these_inside (bytes ">") v.1 (omega arith))) sc (from eb v.2)
          (before (Not (others 60)) u.2 (leads_sharp (others 60) (bytes "</") (close name) refl (close_leads name) u.0 u.2.word (drop e s) u.2.laid)) in
          record { part = x.1; next = o.is e (from x.0 u.2) tt }

-- where a tag stands is within s
pub tag_inside : {name s : List ℕ} {at e : ℕ} → Stands (tag name) s at e → at ≤ length s
tag_inside {name} d = omega (arith, d.size, these_inside (bytes "<" ++ name) d (omega arith))

-- a leaf and the blanks after it
leaf_parts : (name : List ℕ) (t : Text ℕ) {s : List ℕ} {at e : ℕ} → Stands (child (leaf name) t) s at e
    → (a : ℕ) × (m : ℕ) × Stands (tag name) s at a × Stands (content name (allowed_in false) at t) s a m × Stands blanks s m e
leaf_parts name t {at = at} d =
    let u = part (leaf name t) blanks d in
    let w = u.1 in
    let v = part (tag name) (content name (allowed_in false) at t) (record { word = w.word; laid = w.laid; size = w.size; here = w.here }) in
    (v.0, u.0, v.1, v.2, u.2)

pub leaf_found : {name s : List ℕ} {at a n : ℕ} {r : Found Range} → Ends (tag name) anything s at a → FindsContent name (allowed_in false) at s a r
    → Scanned is_blank s r.next (length s) n → Finds (child (leaf name)) (Not is_blank) s at (record { part = r.part; next = n })
leaf_found {name} p finds q t e d fol =
    let u = leaf_parts name t d in
    let r = finds.says (tag_inside u.2) t u.1 (from (p.is u.0 u.2 tt) u.3) tt in
    record { part = r.part; next = (run_ends is_blank q).is e (from r.next u.4) fol }

-- behind the text of a leaf that isn't empty stands its end tag
pub text_leaves : (name : List ℕ) (t : Text ℕ) {s : List ℕ} {at e : ℕ} {p : Range} → ¬ (t.read ≡ []) → Stands (child (leaf name) t) s at e → IsPart s t p
    → Stands (leaving name) s p.to e
text_leaves name t {s} {at} {e} {p} some d i =
    let u = leaf_parts name t d in
    let y = part blanks (Body name false at t) u.3 in
    let z = y.2 in
    join (by_kind y.0 u.1 z.word z.laid z.size z.here) u.4
  where
    by_kind : (h m : ℕ) (w : List ℕ) → Body name false at t h w → m ≡ h + length w → drop h s ≡ w ++ drop m s → Stands (close name) s p.to m
    by_kind h m w (inl l) z k = absurd (some l.0.1)
    by_kind h m w (inr l) z k =
        let u = part (lit ">" · text (allowed_in false) t) (close name) (record { word = w; laid = l; size = z; here = k }) in
        let v = part (lit ">") (text (allowed_in false) t) u.1 in
        from (omega (arith, i.behind, v.2.laid.0, v.2.size, ap length v.2.laid.2)) u.2
