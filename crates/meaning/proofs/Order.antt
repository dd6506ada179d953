-- The order of violations is 01's: "rule 1 by node; rule 2 by edge; rule 3 by schema edge, then node; rule 4 likewise".
use Prim.Native.Nat.{ℕ, ◌≤◌, ◌<◌}
use native.Mathlib.Omega.{arith}
use Rattle.meaning.specs.Rules.{Way, out, into}
use Rattle.meaning.specs.Violations.{node, edge, number, rule_of, ◌≼◌}
use Rattle.meaning.proofs.FirstFound.{numbered_rule}

pub nodes_before_edges : (i e : ℕ) → node i ≼ edge e
nodes_before_edges i e = omega arith

pub edges_before_numbers : (e : ℕ) (w : Way) (s v n : ℕ) → edge e ≼ number w s v n
edges_before_numbers e w s v n = let r = numbered_rule w in omega arith

pub rule_3_before_4 : (s v n t u m : ℕ) → number out s v n ≼ number into t u m
unfolding rule_of
rule_3_before_4 s v n t u m = omega arith

pub by_place : (i j : ℕ) → i ≤ j → (node i ≼ node j) × (edge i ≼ edge j)
by_place i j h = (omega arith, omega arith)

pub by_schema_edge : (w : Way) (s v n t u m : ℕ) → s < t → number w s v n ≼ number w t u m
by_schema_edge w s v n t u m h = omega arith

pub then_by_node : (w : Way) (s v n u m : ℕ) → v ≤ u → number w s v n ≼ number w s u m
then_by_node w s v n u m h = omega arith
