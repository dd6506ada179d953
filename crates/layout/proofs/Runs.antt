-- Laws of runs, for a loop that goes through the objects and the rows of each one's run.
use mathlib.Core.Path.{◌≡◌, refl}
use mathlib.Core.List.{List}
use Prim.Native.Nat.{ℕ, zero, suc, ◌+◌, ◌-◌, ◌≤◌, ◌<◌}
use native.Mathlib.Decide.{ℕ_discrete, dec_lt}
use native.Mathlib.Nat.{not-suc-le-zero}
use native.Mathlib.Numerals.{add-one}
use native.Mathlib.Omega.{arith}
use lib.ListN.{length}
use Rattle.meaning.specs.Places.{Every, Lowest}
use Rattle.layout.specs.declared.Trailer.{Trailer}
use Rattle.layout.specs.declared.Head.{Head}
use Rattle.layout.specs.Runs.{head_in, start, InRun, GoodHead, RowIn, GoodRow, Rises}

module _ (hs : List Head) where
  pub start_none : start hs 0 ≡ 0
  unfolding start
  start_none = refl

  pub start_more : (j : ℕ) → start hs (j + 1) ≡ start hs j + (head_in hs j).count
  unfolding start
  start_more j = rw add-one refl

  -- a run ends before a later one starts
  pub start_after : (i j : ℕ) → i < j → start hs i + (head_in hs i).count ≤ start hs j
  unfolding start
  start_after i zero h = absurd (not-suc-le-zero h)
  start_after i (suc j) h = go (ℕ_discrete i j) (start_after i j)
    where
      go : Dec (i ≡ j) → (i < j → start hs i + (head_in hs i).count ≤ start hs j) → start hs i + (head_in hs i).count ≤ start hs j + (head_in hs j).count
      go (yes e) f = rw e (omega arith)
      go (no n) f = let k = f (omega arith) in omega arith

  -- a row is in the runs of no two objects
  pub run_one : (r i j : ℕ) → InRun hs r i → InRun hs r j → i ≡ j
  run_one r i j a b = go (dec_lt i j) (dec_lt j i)
    where
      go : Dec (i < j) → Dec (j < i) → i ≡ j
      go (yes h) d = let k = start_after i j h in absurd (omega arith)
      go (no h) (yes k) = let l = start_after j i k in absurd (omega arith)
      go (no h) (no k) = omega arith

module _ (hs : List Head) (names : ℕ) (name : ℕ → ℕ) (Own : ℕ → Type 0) where
  abbrev Good : ℕ → Type 0
  Good = GoodRow hs names name Own

  -- a row after all runs is in none
  pub rest_bad : (r : ℕ) → start hs (length hs) ≤ r → ¬ Good r
  rest_bad r h g = let k = start_after hs g.object _ g.below in omega (arith, g.run.until)

  -- a good row is good in every run that it is in
  pub good_there : {r : ℕ} (j : ℕ) → Good r → InRun hs r j → RowIn names name Own (start hs j) r
  good_there {r} j g i = rw (run_one hs r g.object j g.run i) at g.good

  -- one run more, where all rows before it are good
  module _ (j : ℕ) (l : j < length hs) (all : Every (start hs j) Good) where
    abbrev Asked : ℕ → Type 0
    Asked r = start hs j ≤ r → RowIn names name Own (start hs j) r

    asked_good : (r : ℕ) → r < start hs j + (head_in hs j).count → Asked r → Good r
    asked_good r m w = go (dec_lt r (start hs j))
      where
        go : Dec (r < start hs j) → Good r
        go (yes b) = all r b
        go (no b) = record { object = j; below = l; run = record { from = omega arith; until = m }; good = w (omega arith) }

    pub run_bad : (k : ℕ) → Lowest (start hs j + (head_in hs j).count) (λ r. ¬ Asked r) k → Lowest (start hs (j + 1)) (λ r. ¬ Good r) k
    run_bad k w =
        record {
          below = rw (start_more hs j) w.below;
          holds = λ g. w.holds (λ b. good_there j g (record { from = b; until = w.below }));
          before = λ r m q. w.before r m (λ a. q (asked_good r (omega (arith, w.below)) a));
        }

    pub run_good : Every (start hs j + (head_in hs j).count) Asked → Every (start hs (j + 1)) Good
    run_good w = rw (start_more hs j) (λ r m. asked_good r m (w r m))

  -- in good rows the names of a run rise
  pub names_rise :
      {n : Trailer} → Every n.rows Good → (j : ℕ) → j < length hs → GoodHead n (head_in hs j) (start hs j) → (k : ℕ) → 1 ≤ k → k < (head_in hs j).count
      → name ((head_in hs j).first + k - 1) < name ((head_in hs j).first + k)
  names_rise g j h e k l m =
      let b = e.begins in
      let n = e.ends in
      (good_there j (g ((head_in hs j).first + k) (omega arith)) (record { from = omega arith; until = omega arith })).rising (omega arith)

-- where names rise, a later row has no lower name
pub rises_up : {n : ℕ} {name : ℕ → ℕ} → Rises n name → (i j : ℕ) → i ≤ j → j < n → name i ≤ name j
rises_up {name = name} r i zero h l = let e : i ≡ 0 = omega arith in rw e (omega arith)
rises_up {n} {name} r i (suc j) h l = go (ℕ_discrete i (suc j)) (rises_up r i j)
  where
    go : Dec (i ≡ suc j) → (i ≤ j → j < n → name i ≤ name j) → name i ≤ name (suc j)
    go (yes e) f = rw e (omega arith)
    go (no n) f =
        let a = f (omega arith) (omega arith) in
        let b : name (suc j - 1) < name (suc j) = r (suc j) l (omega arith) in
        let e : suc j - 1 ≡ j = omega arith in
        omega (arith, a, rw e at b)
