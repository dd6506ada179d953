-- A walk down two lists of rising names: the names passed in one are lower than those ahead in the other. Said once for both ways.
use mathlib.Core.Path.{◌≡◌, sym, ◌∙◌}
use mathlib.Core.List.{List}
use Prim.Native.Nat.{ℕ, ◌+◌, ◌-◌, ◌*◌, ◌≤◌, ◌<◌}
use native.Mathlib.Decide.{dec_lt}
use native.Mathlib.Omega.{arith}
use borrow.Author.Count.{below_more}
use Rattle.little.specs.Little.{little}
use Rattle.meaning.specs.Places.{Every}
use Rattle.layout.specs.Runs.{Rises}
use Rattle.layout.proofs.Runs.{rises_up}
use Rattle.records.specs.declared.run.Row.{Row}
use Rattle.records.specs.Walk.{no_name, row_at, Ahead}
use Rattle.records.proofs.RowAhead.{row_ahead, name_ahead, name_within}

-- where names rise, a later row has a higher name
rises_above : {n : ℕ} {name : ℕ → ℕ} → Rises n name → (i j : ℕ) → i < j → j < n → name i < name j
rises_above r i j h l = let a = rises_up r i (j - 1) (omega arith) (omega arith) in let b = r j l (omega arith) in omega arith

-- so that no name stands at two places
rises_one : {n : ℕ} {name : ℕ → ℕ} → Rises n name → (i j : ℕ) → i < n → j < n → name i ≡ name j → i ≡ j
rises_one {name = name} r i j h l e = go (dec_lt i j) (dec_lt j i)
  where
    go : Dec (i < j) → Dec (j < i) → i ≡ j
    go (yes p) q = let b = rises_above r i j p l in absurd (omega arith)
    go (no p) (yes q) = let b = rises_above r j i q h in absurd (omega arith)
    go (no p) (no q) = omega arith

-- a name is lower than every name from j on
abbrev pub Under : ℕ → ℕ → (ℕ → ℕ) → ℕ → Type 0
Under x m b j = (l : ℕ) → j ≤ l → l < m → x < b l

-- every row of one list before i has a lower name than every row of the other from j on
abbrev pub Behind : ℕ → (ℕ → ℕ) → (ℕ → ℕ) → ℕ → ℕ → Type 0
Behind m a b i j = Every i (λ k. Under (a k) m b j)

pub none_behind : (m : ℕ) (a b : ℕ → ℕ) (j : ℕ) → Behind m a b 0 j
none_behind m a b j k l = absurd (omega arith)

module _ {m : ℕ} {a b : ℕ → ℕ} where
  -- the other list goes on
  pub further : {i j k : ℕ} → Behind m a b i j → j ≤ k → Behind m a b i k
  further p h q x l y z = p q x l (omega arith) z

  -- this one goes on too: the name that is passed is lower than all ahead in the other
  pub passes : {i j k : ℕ} → Behind m a b i j → j ≤ k → Under (a i) m b k → Behind m a b (i + 1) k
  passes {i} {j} {k} p h u = below_more (λ q. Under (a q) m b k) i (further p h) u

module _ {m : ℕ} {b : ℕ → ℕ} (rises : Rises m b) where
  -- lower than the next name is lower than all, and so is a name of which the equal one is passed
  under : {x j : ℕ} → (j < m → x < b j) → Under x m b j
  under {x} {j} h l y z = let a = h (omega arith) in let c = rises_up rises j l y z in omega arith

  under_equal : {x j : ℕ} → x ≡ b j → Under x m b (j + 1)
  under_equal {x} {j} e l y z = rw e (rises_above rises j l (omega arith) z)

-- a name that is above all that are passed, and below all ahead, is not there
not_there : {n m : ℕ} {a b : ℕ → ℕ} {i j : ℕ} → Behind n b a j i → i < n → Under (a i) m b j → Every m (λ l. ¬ (b l ≡ a i))
not_there {a = a} {b} {i} {j} p h u l z e = go (dec_lt l j)
  where
    go : Dec (l < j) → ⊥
    go (yes q) = let c = p l q i (omega arith) h in omega arith
    go (no q) = let c = u l (omega arith) z in omega arith

-- ---- the two rows ahead: x of one run, y of the other

abbrev names : ℕ → List ℕ → ℕ → ℕ → ℕ
names w t first k = little 2 t (w * (first + k))

module _ {v w : ℕ} {s t : List ℕ} {f m i read g n j read' : ℕ} {x y : Row} (p : Ahead v s f m i read x) (q : Ahead w t g n j read' y) (rises : Rises n (names w t g)) where
  -- the lower name is not in the other run
  module _ (lower : x.name < y.name) where
    pub lower_row : (i < m) × (read ≡ i + 1) × (x ≡ row_at v s (f + i))
    lower_row = row_ahead p (omega (arith, name_within q))

    pub lower_under : Under (names v s f i) n (names w t g) j
    lower_under = under rises (λ l. rw (← name_ahead p lower_row.0, ← name_ahead q l) lower)

    pub lower_absent : Behind m (names w t g) (names v s f) j i → Every n (λ l. ¬ (names w t g l ≡ names v s f i))
    lower_absent b = not_there b lower_row.0 lower_under

  -- of equal names both are rows, and the name stands at no second place
  module _ (equal : x.name ≡ y.name) (ahead : y.name < no_name) where
    pub equal_row : (i < m) × (read ≡ i + 1) × (x ≡ row_at v s (f + i))
    equal_row = row_ahead p (omega arith)

    pub equal_names : names v s f i ≡ names w t g j
    equal_names = sym (name_ahead p equal_row.0) ∙ equal ∙ name_ahead q (row_ahead q ahead).0

    pub equal_under : Under (names v s f i) n (names w t g) (j + 1)
    equal_under = under_equal rises equal_names

    pub equal_one : (l : ℕ) → l < n → names v s f i ≡ names w t g l → l ≡ j
    equal_one l h e = rises_one rises l j h (row_ahead q ahead).0 (sym e ∙ equal_names)
