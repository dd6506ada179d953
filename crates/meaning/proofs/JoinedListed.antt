-- The list of all violations (02, Ask 6) of a joined graph: those of the first's list, and those of the second's moved; and so in the numbers that are told.
use mathlib.Core.Path.{refl, sym}
use mathlib.Core.Logic.{◌↔◌, ◌⊎◌, inl, inr}
use mathlib.Core.List.Memᴰ
use mathlib.Core.List.{List, map, Memᴰ}
use Rattle.meaning.specs.Model.{Graph, Schema}
use Rattle.meaning.specs.Violations.{Violation, Violates}
use Rattle.meaning.specs.Answer.{Answer, Told}
use Rattle.meaning.specs.Listing.{Lists, EachTold, none, one_more, AllTold}
use Rattle.meaning.specs.Join.{joined, Ended, moved_on, OfBoth, of_first, of_second, ToldOfBoth, told_of_first, told_of_second}
use Rattle.meaning.proofs.OneAnswer.{told_one}
use Rattle.meaning.proofs.Joined.{joined_violations}
use Rattle.meaning.proofs.JoinedTold.{joined_told_first, joined_told_second, joined_told_moved}

-- what stands in the list of what is told: what is told of one of the violations
module _ (G : Graph) (S : Schema) where
  told_of : {l : List Violation} {m : List Answer} {a : Answer} → EachTold G S l m → Memᴰ a m → (v : Violation) × Memᴰ v l × Told G S v a
  told_of none x4 = elim x4 [ ]
  told_of (one_more {v = v} t e) (Memᴰ.head h) = (v, Memᴰ.head refl, rw h t)
  told_of (one_more t e) (Memᴰ.tail i) = let r = told_of e i in (r.0, Memᴰ.tail r.1, r.2)

  stands_told : {l : List Violation} {m : List Answer} {v : Violation} {a : Answer} → EachTold G S l m → Memᴰ v l → Told G S v a → Memᴰ a m
  stands_told none x7 q = elim x7 [ ]
  stands_told (one_more t e) (Memᴰ.head h) q = Memᴰ.head (told_one G S (rw h at q) t)
  stands_told (one_more t e) (Memᴰ.tail i) q = Memᴰ.tail (stands_told e i q)

  told_iff : {m : List Answer} → AllTold G S m → (a : Answer) → Memᴰ a m ↔ ((v : Violation) × Violates G S v × Told G S v a)
  told_iff t a = (
    λ i. let r = told_of t.told i in (r.0, t.lists.are r.0 r.1, r.2),
    λ r. stands_told t.told (t.lists.every r.0 r.1) r.2,
  )

module _ (G H : Graph) (S : Schema) (ended : Ended G) where
  -- the list of all holds those of the first's list and those of the second's, moved
  pub joined_lists :
      {k l m : List Violation} → Lists (Violates G S) l → Lists (Violates H S) m → Lists (Violates (joined G H) S) k → (v : Violation)
      → Memᴰ v k ↔ (Memᴰ v l ⊎ Memᴰ v (map (moved_on G) m))
  joined_lists {k} {l} {m} a b c v = (λ i. there ((joined_violations G H S ended v).0 (c.are v i)), λ i. c.every v ((joined_violations G H S ended v).1 (back i)))
    where
      there : OfBoth G H S v → Memᴰ v l ⊎ Memᴰ v (map (moved_on G) m)
      there (of_first h) = inl (a.every v h)
      there (of_second u e h) = inr (rw e (Memᴰ.map (moved_on G) (b.every u h)))

      back : Memᴰ v l ⊎ Memᴰ v (map (moved_on G) m) → OfBoth G H S v
      back (inl i) = of_first (a.are v i)
      back (inr i) = let t = Memᴰ.of_map (moved_on G) m i in of_second t.0 (sym t.2) (b.are t.0 t.1)

  -- in numbers: all that is told of the joined graph
  pub joined_all_told : {m : List Answer} → AllTold (joined G H) S m → (b : Answer) → Memᴰ b m ↔ ToldOfBoth G H S b
  joined_all_told t b = (
    λ i. let r = (told_iff (joined G H) S t b).0 i in there r.0 r.2 ((joined_violations G H S ended r.0).0 r.1),
    λ q. (told_iff (joined G H) S t b).1 (back q),
  )
    where
      there : (v : Violation) → Told (joined G H) S v b → OfBoth G H S v → ToldOfBoth G H S b
      there v q (of_first h) = told_of_first v h ((joined_told_first G H S ended v h b).0 q)
      there v q (of_second u e h) = let r = joined_told_moved G H S ended u h (rw e at q) in told_of_second u r.0 r.2 h r.1

      back : ToldOfBoth G H S b → (v : Violation) × Violates (joined G H) S v × Told (joined G H) S v b
      back (told_of_first v h q) = (v, (joined_violations G H S ended v).1 (of_first h), (joined_told_first G H S ended v h b).1 q)
      back (told_of_second u a e h q) =
          (moved_on G u, (joined_violations G H S ended (moved_on G u)).1 (of_second u refl h), rw e ((joined_told_second G H S ended u h a).1 q))
