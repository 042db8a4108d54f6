-- What a reading function promises: its answer is right for a form, whatever goes on after it. From one promise follow soundness,
-- completeness, that no other reading is there, and how far some text of the form goes (rule 2's place).
use Rattle.std.specs.Prelude.{ℕ, suc, ◌+◌, ◌≤◌, max, ◌≡◌, Result, Ok, Err, List, ◌++◌, length, take, drop}
use Rattle.paper.specs.Bytes.{is_blank}
use Rattle.paper.specs.Form.{Form}
use Rattle.read_steps.specs.Follow.{Not, anything}
use Rattle.read_steps.specs.declared.Cursor.{Cursor}
use Rattle.read_steps.specs.declared.Stuck.{Stuck}

-- where a reading stands, or how far it went where nothing goes on
abbrev pub Step : Type 0
Step = Result Cursor Stuck

abbrev pub going : (next far : ℕ) → Step
going next far = Ok (record { next = next; far = far })

abbrev pub stuck : (far : ℕ) → Step
stuck far = Err (record { far = far })

-- some text of the form L, at the place `at`, starts with u
abbrev pub Viable : {A : Type 0} → (A → Form) → ℕ → List ℕ → Type 0
Viable {A} L at u = (b : A) × (y : List ℕ) × L b at (u ++ y)

-- Of the text t at the place `at`, n bytes are a text of the form L, and no other reading agrees with t for more than r bytes
pub record Took {A : Type 0} (L : A → Form) (Fol : List ℕ → Type 0) (at : ℕ) (t : List ℕ) (n r : ℕ) : Type 0 where
  pub value : A
  pub word : List ℕ
  pub rest : List ℕ
  pub split : t ≡ word ++ rest
  pub size : n ≡ length word
  pub laid : L value at word
  pub upto : n ≤ r
  pub inside : r ≤ length t
  pub viable : Viable L at (take r t)
  pub only : (b : A) (w z : List ℕ) → L b at w → Fol z → take (suc r) (w ++ z) ≡ take (suc r) t → (b ≡ value) × (w ≡ word)

-- No text of the form L agrees with t for more than j bytes, and one does for j
pub record Lost {A : Type 0} (L : A → Form) (Fol : List ℕ → Type 0) (at : ℕ) (t : List ℕ) (j : ℕ) : Type 0 where
  pub inside : j ≤ length t
  pub viable : Viable L at (take j t)
  pub none : (b : A) (w z : List ℕ) → L b at w → Fol z → take (suc j) (w ++ z) ≡ take (suc j) t → ⊥

-- from a step to the next, by the form L, before a text of Fol
abbrev pub ReadsAt : {A : Type 0} → (A → Form) → (List ℕ → Type 0) → List ℕ → Step → Step → Type 0
ReadsAt L Fol s (Err e) x = x ≡ Err e
ReadsAt L Fol s (Ok c) (Ok d) =
    (n : ℕ) × (r : ℕ) × (d.next ≡ c.next + n) × (d.far ≡ max c.far (c.next + r)) × Took L Fol c.next (drop c.next s) n r
ReadsAt L Fol s (Ok c) (Err e) = (j : ℕ) × (e.far ≡ max c.far (c.next + j)) × Lost L Fol c.next (drop c.next s) j

pub record Reads {A : Type 0} (L : A → Form) (Fol : List ℕ → Type 0) (s : List ℕ) (x y : Step) : Type 0 where
  pub is : ReadsAt L Fol s x y

-- the same for a form that has no value of its own
abbrev pub Passes : Form → (List ℕ → Type 0) → List ℕ → Step → Step → Type 0
Passes F = Reads (λ (u : Unit {0}). F)

-- a step that did not fail is at the end
abbrev pub AtEnd : List ℕ → Step → Type 0
AtEnd s (Ok c) = length s ≤ c.next
AtEnd s (Err e) = Unit {0}

-- a step that knows of a text that goes to `far`
abbrev pub raised : ℕ → Step → Step
raised far (Ok c) = going c.next (max far c.far)
raised far (Err e) = stuck (max far e.far)

-- the first of two readings from one place that succeeds
abbrev pub chosen : Step → Step → Step
chosen (Ok c) y = Ok c
chosen (Err e) y = raised e.far y

-- where what may be missing is missing, the place before it
abbrev pub stayed : ℕ → Step → Step
stayed at (Ok c) = Ok c
stayed at (Err e) = going at e.far

-- r is the step from x by the form L, or x where L is not there
pub record Tried {A : Type 0} (L : A → Form) (Fol : List ℕ → Type 0) (s : List ℕ) (x r : Step) : Type 0 where
  pub step : Step
  pub reads : Reads L Fol s x step
  pub is : r ≡ chosen step x

-- a text of the form L, and then one of P that ends before no blank
pub record Followed {A : Type 0} (L : A → Form) (P : Form) (s : List ℕ) (x r : Step) : Type 0 where
  pub step : Step
  pub reads : Reads L anything s x step
  pub passes : Passes P (Not is_blank) s step r
