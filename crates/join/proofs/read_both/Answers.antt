-- `read_both` reads the first graph, and then the second.
use mathlib.Core.Path.{sym, subst}
use Rattle.join.specs.declared.Unjoined.TheVariants.{First, Second}
use Rattle.join.specs.Inner.{ReadsBoth}
use Rattle.join.proofs.Owed.{first_refused, second_refused}
use Rattle.join.proofs.Refusing.{refusal, acceptance, both_of}
use Rattle.join.proofs.read_both.Goals as goal

pub returns-in_err-a : goal.returns-in_err-a
returns-in_err-a c =
    let f = c.args.first.now in
    let g = c.args.second.now in
    let owed = refusal First f c.read_tables.result c.map_err.result c.from_residual.result c.read_tables.ensures c.map_err.ensures.cases c.in_err-a.was c.from_residual.ensures.1 in
    subst (λ o. ReadsBoth o f g) (sym owed.1.1) (λ out. first_refused f g out owed.1.0)

pub returns-in_err-b : goal.returns-in_err-b
returns-in_err-b c =
    let f = c.args.first.now in
    let g = c.args.second.now in
    let p = acceptance First f c.read_tables.result c.map_err.result c.read_tables.ensures c.map_err.ensures.cases c.in_ok-a.was in
    let owed = refusal Second g c.read_tables-2.result c.map_err-2.result c.from_residual-in_err-b.result c.read_tables-2.ensures c.map_err-2.ensures.cases c.in_err-b.was c.from_residual-in_err-b.ensures.1 in
    subst (λ o. ReadsBoth o f g) (sym owed.1.1) (λ out. second_refused f g out p.0 owed.1.0)

pub new-requires : goal.new-requires
new-requires c =
    let p = acceptance First c.args.first.now c.read_tables.result c.map_err.result c.read_tables.ensures c.map_err.ensures.cases c.in_ok-a.was in
    let q = acceptance Second c.args.second.now c.read_tables-2.result c.map_err-2.result c.read_tables-2.ensures c.map_err-2.ensures.cases c.in_ok-b.was in
    (p.1.good, q.1.good)

pub returns : goal.returns
returns c =
    let p = acceptance First c.args.first.now c.read_tables.result c.map_err.result c.read_tables.ensures c.map_err.ensures.cases c.in_ok-a.was in
    let q = acceptance Second c.args.second.now c.read_tables-2.result c.map_err-2.result c.read_tables-2.ensures c.map_err-2.ensures.cases c.in_ok-b.was in
    both_of p q c.new.ensures
