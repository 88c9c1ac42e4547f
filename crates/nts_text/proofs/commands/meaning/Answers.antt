use Rattle.std.proofs.Common.{Err, ap}
use Rattle.nts_text.proofs.FaultLemmas.{no_meaning, bad_type, bad_trait, bad_alias, bad_impl, bad_norm, bad_goal, bad_env}
use Rattle.nts_text.specs.declared.refusals.TextError.TheVariants.{Memory}
use Rattle.nts_text.proofs.commands.meaning.Goals as goal

-- a node of a clause that is at fault, or of a goal
pub returns-in_err-head-in-Impl : goal.returns-in_err-head-in-Impl
returns-in_err-head-in-Impl c =
    let e = c.in_err-head-in-Impl in
    no_meaning _ _ _ _ _ c.from_residual-in_err-head-in-Impl.result e.field-0.0 c.from_residual-in_err-head-in-Impl.ensures.1
    (rw c.in-Impl.is (bad_impl c.args.names.now c.args.line.now c.in-Impl.head c.in-Impl.body e.field-0.0 e.ensures.reasons (λ is. e.ensures.variable (ap Err is))
    (λ is. rw (c.deref-in-Impl.ensures.value, c.deref-in-Impl-2.ensures.value) at e.ensures.unknown (ap Err is)) (λ is. rw (c.deref-in-Impl.ensures.value, c.deref-in-Impl-2.ensures.value) at e.ensures.twice (ap Err is))
    (λ is. rw (c.deref-in-Impl.ensures.value, c.deref-in-Impl-2.ensures.value) at e.ensures.rigid (ap Err is))))

pub returns-in_err-head-in-Norm : goal.returns-in_err-head-in-Norm
returns-in_err-head-in-Norm c =
    let e = c.in_err-head-in-Norm in
    no_meaning _ _ _ _ _ c.from_residual-in_err-head-in-Norm.result e.field-0.0 c.from_residual-in_err-head-in-Norm.ensures.1
    (rw c.in-Norm.is (bad_norm c.args.names.now c.args.line.now c.in-Norm.head c.in-Norm.body e.field-0.0 e.ensures.reasons (λ is. e.ensures.variable (ap Err is))
    (λ is. rw (c.deref-in-Norm.ensures.value, c.deref-in-Norm-2.ensures.value) at e.ensures.unknown (ap Err is)) (λ is. rw (c.deref-in-Norm.ensures.value, c.deref-in-Norm-2.ensures.value) at e.ensures.twice (ap Err is))
    (λ is. rw (c.deref-in-Norm.ensures.value, c.deref-in-Norm-2.ensures.value) at e.ensures.rigid (ap Err is))))

pub returns-in_err-nodes-in-Goal : goal.returns-in_err-nodes-in-Goal
returns-in_err-nodes-in-Goal c =
    let e = c.in_err-nodes-in-Goal in
    no_meaning _ _ _ _ _ c.from_residual-in_err-nodes-in-Goal.result e.field-0.0 c.from_residual-in_err-nodes-in-Goal.ensures.1
    (rw c.in-Goal.is (bad_goal c.args.names.now c.args.line.now c.in-Goal.nodes e.field-0.0 e.ensures.reasons (λ is. e.ensures.parameter (ap Err is)) (λ is. e.ensures.variable (ap Err is))
    (λ is. rw c.deref-in-Goal.ensures.value at e.ensures.unknown (ap Err is)) (λ is. rw c.deref-in-Goal.ensures.value at e.ensures.twice (ap Err is)) (λ is. rw c.deref-in-Goal.ensures.value at e.ensures.rigid (ap Err is))))

pub returns-in_err-nodes-in-Env : goal.returns-in_err-nodes-in-Env
returns-in_err-nodes-in-Env c =
    let e = c.in_err-nodes-in-Env in
    no_meaning _ _ _ _ _ c.from_residual-in_err-nodes-in-Env.result e.field-0.0 c.from_residual-in_err-nodes-in-Env.ensures.1
    (rw c.in-Env.is (bad_env c.args.names.now c.args.line.now c.in-Env.nodes e.field-0.0 e.ensures.reasons (λ is. e.ensures.parameter (ap Err is))
    (λ is. rw c.deref-in-Env.ensures.value at e.ensures.unknown (ap Err is)) (λ is. rw c.deref-in-Env.ensures.value at e.ensures.twice (ap Err is)) (λ is. rw c.deref-in-Env.ensures.value at e.ensures.rigid (ap Err is))))

-- a declaration that is refused, or for which memory ran out
pub returns-in_err-sorts-in-Type : goal.returns-in_err-sorts-in-Type
returns-in_err-sorts-in-Type c = no_meaning _ _ _ _ _ c.from_residual.result Memory c.from_residual.ensures.1 tt

pub returns-in_err-number-in-Type : goal.returns-in_err-number-in-Type
returns-in_err-number-in-Type c =
    let e = c.in_err-number-in-Type in
    let r = c.from_residual-in_err-number-in-Type in
    no_meaning _ _ _ _ _ r.result e.field-0.0 r.ensures.1
    (rw c.in-Type.is (bad_type c.args.names.now c.args.line.now c.in-Type.name c.in-Type.params e.field-0.0 (rw c.text.ensures at e.ensures.taken)))

pub returns-in_err-number-in-Trait : goal.returns-in_err-number-in-Trait
returns-in_err-number-in-Trait c =
    let e = c.in_err-number-in-Trait in
    let r = c.from_residual-in_err-number-in-Trait in
    no_meaning _ _ _ _ _ r.result e.field-0.0 r.ensures.1
    (rw c.in-Trait.is (bad_trait c.args.names.now c.args.line.now c.in-Trait.name c.in-Trait.sorts c.in-Trait.coinductive e.field-0.0 (rw c.text-in-Trait.ensures at e.ensures.taken)))

pub returns-in_err-number-in-Alias : goal.returns-in_err-number-in-Alias
returns-in_err-number-in-Alias c =
    let e = c.in_err-number-in-Alias in
    let r = c.from_residual-in_err-number-in-Alias in
    no_meaning _ _ _ _ _ r.result e.field-0.0 r.ensures.1
    (rw c.in-Alias.is (bad_alias c.args.names.now c.args.line.now c.in-Alias.name c.in-Alias.sorts c.in-Alias.is_rigid e.field-0.0 (rw c.text-in-Alias.ensures at e.ensures.taken)))
