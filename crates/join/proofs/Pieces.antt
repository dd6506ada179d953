-- A piece of a joined graph: objects of one file with their property rows, moved. What is proved of one piece serves all four.
use mathlib.Core.Path.{◌≡◌, refl, ap, ◌∙◌}
use mathlib.Core.List.{List}
use Prim.Native.Nat.{ℕ, zero, suc, ◌+◌, ◌-◌, ◌≤◌, ◌<◌}
use native.Mathlib.Nat.{add-zero, add-suc}
use native.Mathlib.Decide.{ℕ_discrete, dec_lt}
use native.Mathlib.Omega.{arith}
use lib.ListN.{length}
use Rattle.meaning.specs.Model as meaning
use Rattle.layout.specs.declared.File.TheVariants.{Graph}
use Rattle.layout.specs.declared.Trailer.{Trailer}
use Rattle.layout.specs.declared.Head.{Head}
use Rattle.layout.specs.declared.Value.{Value}
use Rattle.layout.specs.Tables.{between, rows}
use Rattle.layout.specs.Files.{Body}
use Rattle.layout.specs.Runs.{head_in, start, heads, InRun, name_at}
use Rattle.layout.specs.Value.{Valued, is_boolean, is_integer, is_real, is_date, is_text, value_of, meant}
use Rattle.layout.specs.Graph.{kind_at, zero_at, length_at, bits_at, property_of, object_of}
use Rattle.layout.specs.Rows.{GoodProperty, GoodPropertyRow}
use Rattle.layout.proofs.Runs.{start_after, good_there}
use Rattle.layout.proofs.Values.{ValueTests, tests_of, valued}
use Rattle.layout.proofs.Accepted.{good_row}
use Rattle.join.specs.Inner.{Sound}
use Rattle.join.proofs.RunsMoved.{Part, start_moved, run_moved, good_head}

-- rows that say the same one by one
pub rows_same : {A : Type 0} (n : ℕ) (f g : ℕ → A) → ((i : ℕ) → i < n → f i ≡ g i) → rows n f ≡ rows n g
unfolding rows
rows_same zero f g h = refl
rows_same (suc n) f g h = rw (h 0 (omega arith), rows_same n (λ i. f (suc i)) (λ i. g (suc i)) (λ i l. h (suc i) (omega arith))) refl

-- property row r of R is row q of t, where a Text's offset is d more
pub record MovedRow (R : List ℕ) (r : ℕ) (t : List ℕ) (q d : ℕ) : Type 0 where
  pub name : name_at Graph R r ≡ name_at Graph t q
  pub kind : kind_at R r ≡ kind_at t q
  pub zero : zero_at R r ≡ zero_at t q
  pub length : length_at R r ≡ length_at t q
  pub text : kind_at t q ≡ 5 → bits_at R r ≡ bits_at t q + d
  pub other : ¬ (kind_at t q ≡ 5) → bits_at R r ≡ bits_at t q

module _ {R t : List ℕ} {r q d : ℕ} (x : MovedRow R r t q d) where
  moved_tests : (T T' : ℕ) → T + d ≤ T' → ValueTests T (kind_at t q) (length_at t q) (bits_at t q) → ValueTests T' (kind_at R r) (length_at R r) (bits_at R r)
  moved_tests T T' h v = go (ℕ_discrete (kind_at t q) 5)
    where
      go : Dec (kind_at t q ≡ 5) → ValueTests T' (kind_at R r) (length_at R r) (bits_at R r)
      go (yes e) =
          rw (x.kind, x.length, x.text e)
          (record { least = v.least; most = v.most; no_length = v.no_length; boolean = λ k. absurd (omega arith); real = λ k. absurd (omega arith); date = λ k. absurd (omega arith); text = λ k. omega (arith, v.text e) })
      go (no e) =
          rw (x.kind, x.length, x.other e)
          (record { least = v.least; most = v.most; no_length = v.no_length; boolean = v.boolean; real = v.real; date = v.date; text = λ k. absurd (e k) })

  -- a good row is good there
  pub moved_property : (T T' : ℕ) → T + d ≤ T' → GoodProperty T t q → GoodProperty T' R r
  moved_property T T' h g = record { zero = x.zero ∙ g.zero; value = (_, valued _ _ _ (moved_tests T T' h (tests_of g.value.1))) }

-- where the text is there, the value means the same
meant_same :
    {T k n b : ℕ} {v : Value} (s u : List ℕ) (d c : ℕ) → ((at : ℕ) (l : ℕ) → at + l ≤ T → between u (at + d) (at + d + l) ≡ between s at (at + l)) → Valued T k n b v
    → (k ≡ 5 → c ≡ b + d) → (¬ (k ≡ 5) → c ≡ b) → meant u (value_of k n c) ≡ meant s (value_of k n b)
meant_same s u d c same (is_boolean h) yes_text no_text = rw (no_text (λ e. omega arith)) refl
meant_same s u d c same is_integer yes_text no_text = rw (no_text (λ e. omega arith)) refl
meant_same s u d c same (is_real h) yes_text no_text = rw (no_text (λ e. omega arith)) refl
meant_same s u d c same (is_date h) yes_text no_text = rw (no_text (λ e. omega arith)) refl
meant_same s u d c same (is_text {n} {b} h) yes_text no_text = rw (yes_text refl) (ap meaning.text (same b n h))

-- the objects from place lo on, len of them, at place `to`: their rows d later, a Text's offset c more
pub record Piece (J : Trailer) (B : Body) (n : Trailer) (b : Body) (to lo len d c : ℕ) : Type 0 where
  pub objects : Part (heads Graph J B) (heads Graph n b) to lo len d
  pub inside : lo + len ≤ length (heads Graph n b)
  pub inside_joined : to + len ≤ length (heads Graph J B)
  pub property : (r : ℕ) → start (heads Graph n b) lo ≤ r → r < start (heads Graph n b) (lo + len) → MovedRow B.rows (r + d) b.rows r c
  pub names : n.names ≤ J.names
  pub text : length b.text + c ≤ length B.text
  pub same_text : (at l : ℕ) → at + l ≤ length b.text → between B.text (at + c) (at + c + l) ≡ between b.text at (at + l)

-- a row between two starts is in the run of an object between them
pub among : (hs : List Head) (lo len r j : ℕ) → start hs lo ≤ r → r < start hs (lo + len) → InRun hs r j → (lo ≤ j) × (j < lo + len)
among hs lo len r j from until i = (go (dec_lt j lo), go_below (dec_lt j (lo + len)))
  where
    go : Dec (j < lo) → lo ≤ j
    go (yes h) = let k = start_after hs j lo h in absurd (omega (arith, i.until))
    go (no h) = omega arith

    go_below : Dec (j < lo + len) → j < lo + len
    go_below (yes h) = h
    go_below (no h) = below (ℕ_discrete j (lo + len))
      where
        below : Dec (j ≡ lo + len) → j < lo + len
        below (yes e) = let x : start hs (lo + len) ≤ r = rw e at i.from in absurd (omega arith)
        below (no e) = let k = start_after hs (lo + len) j (omega arith) in absurd (omega (arith, i.from))

pub start_up : (hs : List Head) (lo i : ℕ) → start hs lo ≤ start hs (lo + i)
unfolding start
start_up hs lo zero = rw add-zero (omega arith)
start_up hs lo (suc i) = rw add-suc (omega (arith, start_up hs lo i))

module _ {J : Trailer} {B : Body} {n : Trailer} {b : Body} {to lo len d c : ℕ} (p : Piece J B n b to lo len d c) (s : Sound n b) where
  -- the name before, in the same run
  rise :
      (r i : ℕ) → i < len → InRun (heads Graph n b) r (lo + i) → GoodPropertyRow Graph n b r → r < start (heads Graph n b) (lo + len)
      → start (heads Graph J B) (to + i) < r + d → name_at Graph B.rows (r + d - 1) < name_at Graph B.rows (r + d)
  rise r i l run g until later =
      let st = start_moved p.objects i (omega arith) in
      let up = start_up (heads Graph n b) lo i in
      let below : start (heads Graph n b) (lo + i) < r = omega arith in
      let names = (good_there (heads Graph n b) n.names (name_at Graph b.rows) _ (lo + i) g run).rising below in
      let e : r - 1 + d ≡ r + d - 1 = omega arith in
      let last : name_at Graph B.rows (r + d - 1) ≡ name_at Graph b.rows (r - 1) = rw e at (p.property (r - 1) (omega arith) (omega arith)).name in
      rw (last, (p.property r (omega arith) until).name) names

  -- a good property row is good at its new place
  pub good_property : (r : ℕ) → start (heads Graph n b) lo ≤ r → r < start (heads Graph n b) (lo + len) → r < n.rows → GoodPropertyRow Graph J B (r + d)
  good_property r from until h =
      let g = good_row Graph n b s.good r h in
      let j = g.object in
      let k = among (heads Graph n b) lo len r j from until g.run in
      let e : lo + (j - lo) ≡ j = omega arith in
      let i = j - lo in
      let l : i < len = omega arith in
      let run : InRun (heads Graph n b) r (lo + i) = rw e g.run in
      record {
        object = to + i;
        below = omega (arith, p.inside_joined);
        run = run_moved p.objects r i l run;
        good =
            record {
              named = rw (p.property r from until).name (omega (arith, g.good.named, p.names));
              rising = rise r i l run g until;
              own = moved_property (p.property r from until) _ _ p.text g.good.own;
            };
      }

  same_property : (r : ℕ) → start (heads Graph n b) lo ≤ r → r < start (heads Graph n b) (lo + len) → r < n.rows → property_of B (r + d) ≡ property_of b r
  same_property r from until h =
      let x = p.property r from until in
      let g = (good_row Graph n b s.good r h).good.own in
      let value : meant B.text (value_of (kind_at b.rows r) (length_at b.rows r) (bits_at B.rows (r + d))) ≡ meant b.text (value_of (kind_at b.rows r) (length_at b.rows r) (bits_at b.rows r)) =
      meant_same b.text B.text c (bits_at B.rows (r + d)) p.same_text g.value.1 x.text x.other in
      rw (x.name, x.kind, x.length) (ap (λ (v : meaning.Value). record { name = name_at Graph b.rows r; value = v }) value)

  -- an object's properties mean what they meant
  pub same_object : (i : ℕ) → i < len → object_of B (head_in (heads Graph J B) (to + i)) ≡ object_of b (head_in (heads Graph n b) (lo + i))
  unfolding start
  same_object i h =
      let H = head_in (heads Graph n b) (lo + i) in
      let g = good_head Graph n b s.good (lo + i) (omega (arith, p.inside)) in
      let f : H.first ≡ start (heads Graph n b) (lo + i) = g.begins in
      let last : H.first + H.count ≤ n.rows = g.ends in
      let up = start_up (heads Graph n b) lo i in
      let z : lo + suc i + (len - suc i) ≡ lo + len = omega arith in
      let y : lo + suc i ≡ suc (lo + i) = omega arith in
      let over : start (heads Graph n b) (suc (lo + i)) ≤ start (heads Graph n b) (lo + len) = rw (z, y) at (start_up (heads Graph n b) (lo + suc i) (len - suc i)) in
      rw (p.objects.heads i h)
      (ap (λ (l : List meaning.Property). record { labels = H.labels; properties = l })
      (rows_same H.count (λ k. property_of B (H.first + d + k)) (λ k. property_of b (H.first + k))
      (λ k l.
      let e : H.first + d + k ≡ H.first + k + d = omega arith in
      ap (λ (r : ℕ). property_of B r) e ∙ same_property (H.first + k) (omega arith) (omega arith) (omega arith))))
