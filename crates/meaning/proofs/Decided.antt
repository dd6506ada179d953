-- Whether an object fits, an edge is placed, an edge counts and a number is right can be decided.
use mathlib.Core.Bool.{Bool-discrete}
use mathlib.Core.List.{List}
use Prim.Native.Nat.{ℕ}
use native.Mathlib.Decide.{ℕ_discrete, dec_le}
use Rattle.meaning.specs.Model.{Value, Object, Shape, Maximum, up_to, any, Interval, Node, Edge, Graph, SchemaNode, SchemaEdge, Schema, property_at, listed_at}
use Rattle.meaning.specs.Fits.{SameLabels, HasType, HasName, ListsName, PresentAt, AllPresent, ListedAt, AllListed, TypedAt, AllTyped, Fits}
use Rattle.meaning.specs.Rules.{AtMost, Within, Way, Placed, Counts, NodePlaced, EdgePlaced, Number, Owes, Right, across}
use Rattle.meaning.specs.Answer.{Missing, Unlisted, Mistyped}
use Rattle.meaning.proofs.Decide.{dec_iff, dec_and, dec_imp, dec_not, dec_some, dec_every}
use Rattle.meaning.proofs.Count.{counted}

unfoldable pub dec_labels : (o : Object) (s : Shape) → Dec (SameLabels o s)
unfolding SameLabels ℕ_discrete
dec_labels o s = ℕ_discrete _ _

unfoldable pub dec_type : (v : Value) (t : ℕ) → Dec (HasType v t)
unfolding HasType ℕ_discrete
dec_type v t = ℕ_discrete _ _

module _ (o : Object) (s : Shape) where
  unfoldable pub dec_has : (x : ℕ) → Dec (HasName o x)
  unfolding dec_some ℕ_discrete
  dec_has x = dec_some (λ i. ℕ_discrete _ _) _

  unfoldable pub dec_lists : (x : ℕ) → Dec (ListsName s x)
  unfolding dec_some ℕ_discrete
  dec_lists x = dec_some (λ j. ℕ_discrete _ _) _

  unfoldable pub dec_present_at : (j : ℕ) → Dec (PresentAt o s j)
  unfolding dec_imp dec_has
  dec_present_at j = dec_imp (Bool-discrete _ _) (dec_has _)

  unfoldable pub dec_listed_at : (i : ℕ) → Dec (ListedAt o s i)
  unfolding dec_imp dec_lists
  dec_listed_at i = dec_imp (Bool-discrete _ _) (dec_lists _)

  unfoldable pub dec_typed_at : (i : ℕ) → Dec (TypedAt o s i)
  unfolding dec_every dec_imp dec_type ℕ_discrete
  dec_typed_at i = dec_every (λ j. dec_imp (ℕ_discrete _ _) (dec_type (property_at o i).value (listed_at s j).type)) _

  unfoldable pub dec_present : Dec (AllPresent o s)
  unfolding dec_every dec_present_at
  dec_present = dec_every dec_present_at _

  unfoldable pub dec_listed : Dec (AllListed o s)
  unfolding dec_every dec_listed_at
  dec_listed = dec_every dec_listed_at _

  unfoldable pub dec_typed : Dec (AllTyped o s)
  unfolding dec_every dec_typed_at
  dec_typed = dec_every dec_typed_at _

  -- whether a name is at fault by (b), (c), (d)
  unfoldable pub dec_missing : (x : ℕ) → Dec (Missing o s x)
  unfolding dec_iff dec_some dec_and dec_not dec_has ℕ_discrete
  dec_missing x =
      dec_iff (λ t. record { mandatory = t.0; absent = t.1 }) (λ m. (m.mandatory, m.absent))
      (dec_and (dec_some (λ j. dec_and (ℕ_discrete _ _) (Bool-discrete _ _)) _) (dec_not (dec_has x)))

  unfoldable pub dec_unlisted : (x : ℕ) → Dec (Unlisted o s x)
  unfolding dec_iff dec_and dec_not dec_has dec_lists
  dec_unlisted x =
      dec_iff (λ t. record { present = t.0; closed = t.1.0; unlisted = t.1.1 }) (λ u. (u.present, (u.closed, u.unlisted)))
      (dec_and (dec_has x) (dec_and (Bool-discrete _ _) (dec_not (dec_lists x))))

  unfoldable pub dec_mistyped : (x : ℕ) → Dec (Mistyped o s x)
  unfolding dec_iff dec_some dec_and dec_not dec_type ℕ_discrete
  dec_mistyped x =
      dec_iff
      (λ t. record { present = (t.0, t.1, t.2.0); listed = (t.2.1.0, t.2.1.1, t.2.1.2.0); other = t.2.1.2.1 })
      (λ m. (m.present.0, m.present.1, (m.present.2, (m.listed.0, m.listed.1, (m.listed.2, m.other)))))
      (dec_some (λ i. dec_and (ℕ_discrete _ _) (dec_some (λ j. dec_and (ℕ_discrete _ _) (dec_not (dec_type (property_at o i).value (listed_at s j).type))) _)) _)

  unfoldable pub dec_fits : Dec (Fits o s)
  unfolding dec_iff dec_and dec_labels dec_present dec_listed dec_typed
  dec_fits =
      dec_iff
      (λ t. record { labels = t.0; properties = record { present = t.1.0; listed = t.1.1.0; typed = t.1.1.1 } })
      (λ f. (f.labels, (f.properties.present, (f.properties.listed, f.properties.typed))))
      (dec_and (dec_labels o s) (dec_and dec_present (dec_and dec_listed dec_typed)))

unfoldable pub dec_at_most : (n : ℕ) (m : Maximum) → Dec (AtMost n m)
unfolding dec_le
dec_at_most n (up_to m) = dec_le n m
dec_at_most n any = yes tt

unfoldable pub dec_within : (n : ℕ) (i : Interval) → Dec (Within n i)
unfolding dec_le dec_iff dec_and dec_at_most
dec_within n i = dec_iff (λ t. record { enough = t.0; not_too_many = t.1 }) (λ w. (w.enough, w.not_too_many)) (dec_and (dec_le _ _) (dec_at_most n i.maximum))

module _ (ns : List Node) (ts : List SchemaNode) where
  unfoldable pub dec_placed : (e : Edge) (s : SchemaEdge) → Dec (Placed ns ts e s)
  unfolding dec_iff dec_and dec_fits
  dec_placed e s =
      dec_iff (λ t. record { edge = t.0; source = t.1.0; target = t.1.1 }) (λ p. (p.edge, (p.source, p.target)))
      (dec_and (dec_fits _ _) (dec_and (dec_fits _ _) (dec_fits _ _)))

  unfoldable pub dec_counts : (w : Way) (s : SchemaEdge) (v : ℕ) (e : Edge) → Dec (Counts ns ts w s v e)
  unfolding dec_iff dec_and dec_fits ℕ_discrete
  dec_counts w s v e =
      dec_iff (λ t. record { here = t.0; fits = t.1.0; far_end = t.1.1 }) (λ c. (c.here, (c.fits, c.far_end)))
      (dec_and (ℕ_discrete _ _) (dec_and (dec_fits _ _) (dec_fits _ _)))

module _ (G : Graph) (S : Schema) where
  unfoldable pub dec_node : (i : ℕ) → Dec (NodePlaced G S i)
  unfolding dec_some dec_fits
  dec_node i = dec_some (λ j. dec_fits _ _) _

  unfoldable pub dec_edge : (e : ℕ) → Dec (EdgePlaced G S e)
  unfolding dec_some dec_placed
  dec_edge e = dec_some (λ s. dec_placed G.nodes S.nodes _ _) _

  unfoldable pub dec_owes : (w : Way) (s v : ℕ) → Dec (Owes G S w s v)
  unfolding dec_fits
  dec_owes w s v = dec_fits _ _

  unfoldable pub dec_right : (w : Way) (s n : ℕ) → Dec (Right G S w s n)
  unfolding dec_within across
  dec_right w s n = dec_within n (across G S w s)

  -- every node has a number of edges at every schema edge
  unfoldable pub numbered : (w : Way) (s v : ℕ) → (n : ℕ) × Number G S w s v n
  unfolding counted dec_counts
  numbered w s v = counted (dec_counts G.nodes S.nodes w _ v) G.edges
