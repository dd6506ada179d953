-- The list of all violations: there is one and no second, its first is the answer, and how it grows by one violation after the other.
use mathlib.Core.Path.{◌≡◌, refl, ap, ap₂}
use mathlib.Core.Logic.{◌↔◌, ◌⊎◌, inl, inr, ⊎_elim}
use mathlib.Core.List.Memᴰ
use mathlib.Core.List.{List, [], ◌∷◌, ◌++◌, Memᴰ}
use Prim.Native.Nat.{ℕ, zero, suc, ◌≤◌, ◌<◌, zero-le, suc-le-suc}
use native.Mathlib.Decide.{dec_le}
use native.Mathlib.Nat.{not-suc-le-zero, le_of_suc-le-suc}
use native.Mathlib.Omega.{arith}
use lib.ListN.{length}
use Rattle.meaning.specs.Places.{Some}
use Rattle.meaning.specs.Model.{Graph, Schema}
use Rattle.meaning.specs.Rules.{Way, out, into, NodePlaced, EdgePlaced, Conforms}
use Rattle.meaning.specs.Violations.{Violation, node, edge, number, rule_of, rule, by, ◌≼◌, Misnumbered, Violates}
use Rattle.meaning.specs.Answer.{Answer, Told, IsAnswer, violating}
use Rattle.meaning.specs.Listing.{Rising, Lists, EachTold, none, one_more, AllTold}
use Rattle.meaning.proofs.Decide.{dec_not, dec_and, by_dec}
use Rattle.meaning.proofs.Count.{counted_one}
use Rattle.meaning.proofs.Decided.{dec_node, dec_edge, dec_owes, dec_right, numbered}
use Rattle.meaning.proofs.NoViolation.{conforms_iff}
use Rattle.meaning.proofs.FirstFound.{Wrong, wrong_of, numbered_rule}
use Rattle.meaning.proofs.Answered.{tell}
use Rattle.meaning.proofs.OneAnswer.{told_one}

-- ---- the order is total

pub not_after : (u v : Violation) → ¬ (u ≼ v) → v ≼ u
not_after u v h =
    record {
      first_rule = by_dec (dec_le _ _) (λ x. h (omega arith));
      first_by = λ e. by_dec (dec_le _ _) (λ x. h (omega arith));
      first_then = λ e f. by_dec (dec_le _ _) (λ x. h (omega arith));
    }

pub not_after_itself : (v : Violation) → v ≼ v
not_after_itself v = omega arith

pub not_after_on : (u v w : Violation) → u ≼ v → v ≼ w → u ≼ w
not_after_on u v w p q =
    record {
      first_rule = omega (arith, p.first_rule, q.first_rule);
      first_by = λ e.
          let a : rule u ≡ rule v = omega (arith, p.first_rule, q.first_rule) in
          let b : rule v ≡ rule w = omega (arith, p.first_rule, q.first_rule) in
          omega (arith, p.first_by a, q.first_by b);
      first_then = λ e f.
          let a : rule u ≡ rule v = omega (arith, p.first_rule, q.first_rule) in
          let b : rule v ≡ rule w = omega (arith, p.first_rule, q.first_rule) in
          let c : by u ≡ by v = omega (arith, p.first_by a, q.first_by b) in
          let d : by v ≡ by w = omega (arith, p.first_by a, q.first_by b) in
          omega (arith, p.first_then a c, q.first_then b d);
    }

-- ---- no second list

module _ {P : Violation → Type 0} where
  -- what follows the first: what is P and comes after it
  lists_rest : {v : Violation} {l : List Violation} → Lists P (v ∷ l) → Lists (λ u. P u × ¬ (u ≼ v)) l
  lists_rest {v} {l} a =
      record {
        are = λ u i. (a.are u (Memᴰ.tail i), a.in_order.0 u i);
        every = λ u p. ⊎_elim (λ e. absurd (p.1 (rw e (not_after_itself v)))) (λ i. i) (Memᴰ.cases_cons (a.every u p.0));
        in_order = a.in_order.1;
      }

  -- the first comes after none
  pub first_of_list : {v : Violation} {l : List Violation} → Lists P (v ∷ l) → (u : Violation) → P u → v ≼ u
  first_of_list {v} {l} a u p = ⊎_elim (λ e. rw e (not_after_itself v)) (λ i. not_after u v (a.in_order.0 u i)) (Memᴰ.cases_cons (a.every u p))

  first_same : {v w : Violation} {l m : List Violation} → Lists P (v ∷ l) → Lists P (w ∷ m) → v ≡ w
  first_same {v} {w} {l} {m} a b = go (Memᴰ.cases_cons (a.every w (b.are w (Memᴰ.head refl))))
    where
      go : (w ≡ v) ⊎ Memᴰ w l → v ≡ w
      go (inl e) = cc
      go (inr i) = absurd (a.in_order.0 w i (first_of_list b v (a.are v (Memᴰ.head refl))))

  pub nothing_listed : Lists P [] ↔ ((v : Violation) → ¬ P v)
  nothing_listed = (
    λ a v p. Memᴰ.not-nil (a.every v p),
    λ h. record { are = λ v i. absurd (Memᴰ.not-nil i); every = λ v p. absurd (h v p); in_order = tt },
  )

pub lists_one : {P : Violation → Type 0} (l m : List Violation) → Lists P l → Lists P m → l ≡ m
lists_one [] [] a b = refl
lists_one [] (w ∷ m) a b = absurd (nothing_listed.0 a w (b.are w (Memᴰ.head refl)))
lists_one (v ∷ l) [] a b = absurd (nothing_listed.0 b v (a.are v (Memᴰ.head refl)))
lists_one (v ∷ l) (w ∷ m) a b = let e = first_same a b in ap₂ ◌∷◌ e (lists_one l m (lists_rest a) (rw e (lists_rest b)))

module _ (G : Graph) (S : Schema) where
  pub each_told_one : {l : List Violation} {m n : List Answer} → EachTold G S l m → EachTold G S l n → m ≡ n
  each_told_one none none = refl
  each_told_one (one_more p a) (one_more q b) = ap₂ ◌∷◌ (told_one G S p q) (each_told_one a b)

  pub all_told_one : (m n : List Answer) → AllTold G S m → AllTold G S n → m ≡ n
  all_told_one m n a b = let e = lists_one _ _ a.lists b.lists in each_told_one a.told (rw e b.told)

-- ---- how a list grows

-- it goes by P alone
pub lists_iff : {P Q : Violation → Type 0} {l : List Violation} → ((v : Violation) → P v → Q v) → ((v : Violation) → Q v → P v) → Lists P l → Lists Q l
lists_iff f g a = record { are = λ v i. f v (a.are v i); every = λ v q. a.every v (g v q); in_order = a.in_order }

pub list_of_one : (x : Violation) → Lists (λ v. v ≡ x) (x ∷ [])
list_of_one x =
    record { are = λ v i. Memᴰ.eq_of_singleton i; every = λ v e. Memᴰ.head e; in_order = (λ u i. absurd (Memᴰ.not-nil i), tt) }

rising_append : (l m : List Violation) → Rising l → Rising m → ((u v : Violation) → Memᴰ u l → Memᴰ v m → ¬ (v ≼ u)) → Rising (l ++ m)
rising_append [] m a b o = b
rising_append (x ∷ l) m a b o = (
  λ u k. ⊎_elim (λ i. a.0 u i) (λ j. o x u (Memᴰ.head refl) j) (Memᴰ.append_cases l k),
  rising_append l m a.1 b (λ u v i j. o u v (Memᴰ.tail i) j),
)

-- a list, and one of what comes after it
pub lists_append :
    {P Q : Violation → Type 0} (l m : List Violation) → Lists P l → Lists Q m → ((u v : Violation) → P u → Q v → ¬ (v ≼ u)) → Lists (λ v. P v ⊎ Q v) (l ++ m)
lists_append {P} {Q} l m a b o =
    record {
      are = λ v k. ⊎_elim (λ i. inl (a.are v i)) (λ j. inr (b.are v j)) (Memᴰ.append_cases l k);
      every = λ v. ⊎_elim (λ p. Memᴰ.append_left m (a.every v p)) (λ q. Memᴰ.append_right l (b.every v q));
      in_order = rising_append l m a.in_order b.in_order (λ u v i j. o u v (a.are u i) (b.are v j));
    }

-- one more at the end, after which none comes
pub lists_more :
    {P : Violation → Type 0} {l : List Violation} (x : Violation) → Lists P l → ((u : Violation) → P u → ¬ (x ≼ u)) → Lists (λ v. P v ⊎ (v ≡ x)) (l ++ x ∷ [])
lists_more {l = l} x a o = lists_append l (x ∷ []) a (list_of_one x) (λ u v p e. rw e (o u p))

module _ (G : Graph) (S : Schema) where
  pub each_told_more :
      {l : List Violation} {m : List Answer} {v : Violation} {a : Answer} → EachTold G S l m → Told G S v a → EachTold G S (l ++ v ∷ []) (m ++ a ∷ [])
  each_told_more none t = one_more t none
  each_told_more (one_more q e) t = one_more q (each_told_more e t)

  -- ---- what the list says

  -- it is empty exactly if the graph conforms
  pub none_told : AllTold G S [] ↔ Conforms G S
  none_told = (λ a. (conforms_iff G S).1 (empty a.lists a.told), λ c. record { violations = []; lists = nothing_listed.1 ((conforms_iff G S).0 c); told = none })
    where
      empty : {l : List Violation} → Lists (Violates G S) l → EachTold G S l [] → (v : Violation) → ¬ Violates G S v
      empty a none = nothing_listed.0 a

  -- and else its first is the answer
  pub first_told : {a : Answer} {m : List Answer} → AllTold G S (a ∷ m) → IsAnswer G S a
  first_told {a} {m} t = go t.lists t.told
    where
      go : {l : List Violation} → Lists (Violates G S) l → EachTold G S l (a ∷ m) → IsAnswer G S a
      go p (one_more q e) = violating (record { violates = p.are _ (Memᴰ.head refl); first = first_of_list p }) q

-- ---- there is such a list

-- one violation, where there is one
listed_if : {Q : Type 0} → Dec Q → (x : Violation) → (l : List Violation) × Lists (λ v. Q × (v ≡ x)) l
listed_if (yes q) x = (_, lists_iff (λ v e. (q, e)) (λ v p. p.1) (list_of_one x))
listed_if (no h) x = ([], nothing_listed.1 (λ v p. h p.0))

-- place by place
module _ (P : ℕ → Violation → Type 0) where
  none_or_more : (n : ℕ) (v : Violation) → P zero v ⊎ Some n (λ i. P (suc i) v) → Some (suc n) (λ i. P i v)
  none_or_more n v (inl p) = (zero, suc-le-suc zero-le, p)
  none_or_more n v (inr t) = (suc t.0, suc-le-suc t.1, t.2)

  more_or_none : (n : ℕ) (v : Violation) → Some (suc n) (λ i. P i v) → P zero v ⊎ Some n (λ i. P (suc i) v)
  more_or_none n v (zero, h, p) = inl p
  more_or_none n v (suc i, h, p) = inr (i, le_of_suc-le-suc h, p)

listed_by_place :
    (n : ℕ) (P : ℕ → Violation → Type 0) → ((i : ℕ) → (l : List Violation) × Lists (P i) l) → ((i j : ℕ) → i < j → (u v : Violation) → P i u → P j v → ¬ (v ≼ u))
    → (l : List Violation) × Lists (λ v. Some n (λ i. P i v)) l
listed_by_place zero P f o = ([], nothing_listed.1 (λ v t. absurd (not-suc-le-zero t.1)))
listed_by_place (suc n) P f o =
    let r = listed_by_place n (λ i. P (suc i)) (λ i. f (suc i)) (λ i j h. o (suc i) (suc j) (suc-le-suc h)) in (
      _,
      lists_iff (none_or_more P n) (more_or_none P n)
          (lists_append (f zero).0 r.0 (f zero).1 r.1 (λ u v p t. o zero (suc t.0) (suc-le-suc zero-le) u v p t.2)),
    )

module _ (G : Graph) (S : Schema) where
  -- the violations of each rule, by their places
  Nodes : Violation → Type 0
  Nodes u = Some (length G.nodes) (λ i. (¬ NodePlaced G S i) × (u ≡ node i))

  Edges : Violation → Type 0
  Edges u = Some (length G.edges) (λ e. (¬ EdgePlaced G S e) × (u ≡ edge e))

  number_at : Way → ℕ → ℕ → Violation
  number_at w s v = number w s v (numbered G S w s v).0

  Numbers : Way → Violation → Type 0
  Numbers w u = Some (length S.edges) (λ s. Some (length G.nodes) (λ v. Wrong G S w s v × (u ≡ number_at w s v)))

  nodes_listed : (l : List Violation) × Lists Nodes l
  unfolding Nodes
  nodes_listed =
      listed_by_place _ _ (λ i. listed_if (dec_not (dec_node G S i)) (node i)) (λ i j l u v p q o. let a = rw (p.1, q.1) at o in let b = a.first_by refl in omega arith)

  edges_listed : (l : List Violation) × Lists Edges l
  unfolding Edges
  edges_listed =
      listed_by_place _ _ (λ e. listed_if (dec_not (dec_edge G S e)) (edge e)) (λ i j l u v p q o. let a = rw (p.1, q.1) at o in let b = a.first_by refl in omega arith)

  numbers_listed : (w : Way) → (l : List Violation) × Lists (Numbers w) l
  unfolding Numbers number_at
  numbers_listed w =
      listed_by_place _ _
      (λ s.
      listed_by_place _ _ (λ v. listed_if (dec_and (dec_owes G S w s v) (dec_not (dec_right G S w s _))) (number_at w s v))
      (λ i j l u v p q o. let a = rw (p.1, q.1) at o in let b = a.first_then refl refl in omega arith))
      (λ s t l u v p q o. let a = rw (p.2.1, q.2.1) at o in let b = a.first_by refl in omega arith)

  -- they are the violations
  numbers_violate : (w : Way) (u : Violation) → Numbers w u → Violates G S u
  unfolding Numbers number_at
  numbers_violate w u (s, h, (v, k, (x, e))) =
      rw e (record { schema_edge = h; node = k; owes = x.0; counted = (numbered G S w s v).1; wrong = x.1 })

  number_listed : {w : Way} {s v n : ℕ} → Misnumbered G S w s v n → Numbers w (number w s v n)
  unfolding Numbers number_at
  number_listed {w} {s} {v} m = (s, m.schema_edge, (v, m.node, (wrong_of G S m, ap (λ k. number w s v k) (counted_one m.counted (numbered G S w s v).1))))

  by_rules : (u : Violation) → Nodes u ⊎ (Edges u ⊎ (Numbers out u ⊎ Numbers into u)) → Violates G S u
  unfolding Nodes Edges
  by_rules u (inl (i, h, (n, e))) = rw e (h, n)
  by_rules u (inr (inl (i, h, (n, e)))) = rw e (h, n)
  by_rules u (inr (inr (inl t))) = numbers_violate out u t
  by_rules u (inr (inr (inr t))) = numbers_violate into u t

  of_rules : (u : Violation) → Violates G S u → Nodes u ⊎ (Edges u ⊎ (Numbers out u ⊎ Numbers into u))
  unfolding Nodes Edges
  of_rules (node i) h = inl (i, h.0, (h.1, refl))
  of_rules (edge e) h = inr (inl (e, h.0, (h.1, refl)))
  of_rules (number out s v n) m = inr (inr (inl (number_listed m)))
  of_rules (number into s v n) m = inr (inr (inr (number_listed m)))

  -- and come rule after rule
  rule_of_nodes : (u : Violation) → Nodes u → rule u ≡ 1
  unfolding Nodes
  rule_of_nodes u p = ap rule p.2.1

  rule_of_edges : (u : Violation) → Edges u → rule u ≡ 2
  unfolding Edges
  rule_of_edges u p = ap rule p.2.1

  rule_of_numbers : (w : Way) (u : Violation) → Numbers w u → rule u ≡ rule_of w
  unfolding Numbers number_at
  rule_of_numbers w u p = ap rule p.2.2.1

  after_edges : (u : Violation) → Numbers out u ⊎ Numbers into u → 3 ≤ rule u
  after_edges u (inl p) = omega (arith, rule_of_numbers out u p, numbered_rule out)
  after_edges u (inr p) = omega (arith, rule_of_numbers into u p, numbered_rule into)

  after_nodes : (u : Violation) → Edges u ⊎ (Numbers out u ⊎ Numbers into u) → 2 ≤ rule u
  after_nodes u (inl p) = omega (arith, rule_of_edges u p)
  after_nodes u (inr p) = omega (arith, after_edges u p)

  pub all_listed : (l : List Violation) × Lists (Violates G S) l
  unfolding rule_of
  all_listed = (
    _,
    lists_iff by_rules of_rules
        (lists_append _ _ nodes_listed.1
        (lists_append _ _ edges_listed.1
        (lists_append _ _ (numbers_listed out).1 (numbers_listed into).1 (λ u v p q o. omega (arith, rule_of_numbers out u p, rule_of_numbers into v q, o.first_rule)))
        (λ u v p q o. omega (arith, rule_of_edges u p, after_edges v q, o.first_rule)))
        (λ u v p q o. omega (arith, rule_of_nodes u p, after_nodes v q, o.first_rule))),
  )

  -- each of them can be told
  each_told : (l : List Violation) → ((v : Violation) → Memᴰ v l → Violates G S v) → (m : List Answer) × EachTold G S l m
  each_told [] h = ([], none)
  each_told (v ∷ l) h =
      let t = tell G S v (h v (Memᴰ.head refl)) in
      let r = each_told l (λ u i. h u (Memᴰ.tail i)) in
      (_, one_more t.1 r.1)

  pub all_told : (m : List Answer) × AllTold G S m
  all_told = let l = all_listed in let t = each_told l.0 l.1.are in (t.0, record { violations = l.0; lists = l.1; told = t.1 })
