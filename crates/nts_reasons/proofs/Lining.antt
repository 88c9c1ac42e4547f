-- Lines are in step with clauses.
use Rattle.std.proofs.Common.{◌≡◌, ◌⊎◌, ℕ, suc, ◌≤◌, ◌==◌, Bool, true, false, if◌then◌else◌, List, [], ◌∷◌, ◌++◌, map, length, take, length-append, Option, None, Some, Result, Ok, Err, inl, inr, refl, sym, ap, ◌∙◌, arith}
use Rattle.std.specs.Prelude.{IfOk, OnOk}
use Rattle.nts_model.specs.declared.labels.ClauseHead.TheVariants as clause
use Rattle.nts_model.specs.declared.labels.Label.TheVariants as label
use Rattle.nts_model.specs.declared.labels.Sort.{Sort}
use Rattle.nts_model.specs.Terms.Trees.{Tree, empty, more, node}
use Rattle.nts_store.specs.Growth.{tree_at}
use Rattle.nts_terms.specs.declared.handles.GenericArg.{GenericArg}
use Rattle.nts_terms.specs.declared.handles.Goal.{Goal}
use Rattle.nts_terms.specs.declared.handles.ParamEnv.{ParamEnv}
use Rattle.nts_candidates.specs.declared.reasons.Reason.{Reason}
use Rattle.nts_delegate.specs.Adding.{AddsClause}
use Rattle.nts_delegate.specs.Clauses.{clauses_of}
use Rattle.nts_delegate.specs.Offers.{trait_of as trait_in_goal, trait_read}
use Rattle.nts_delegate.specs.declared.clauses.Clause.{Clause}
use Rattle.nts_text.specs.declared.commands.Command.{Command}
use Rattle.nts_text.specs.declared.commands.Command.TheVariants as commands
use Rattle.nts_text.specs.declared.resolver.Resolved.{Resolved}
use Rattle.nts_text.specs.declared.resolver.Resolved.TheVariants as nodes
use Rattle.nts_wording.specs.Meaning.{Values, BoundStatement, argument_list, binding_first, binding_nothing, predicate_tree, nodes_meaning, term_of, head_of, values_in, IsGoalOf, IsRuleOf}
use Rattle.nts_wording.specs.declared.variables.LineVariables.{LineVariables}
use Rattle.nts_program.specs.Obeying.{Follows}
use Rattle.nts_reasons.specs.declared.explainer.Asked.{Asked}
use Rattle.nts_reasons.specs.declared.explainer.Explainer.{Explainer}
use Rattle.nts_program.specs.nts_declaring.specs.ImplLines.{lines_of, NotesLine}
use Rattle.nts_reasons.specs.Obeying.{trait_of, lines_for, answer_of, HasLines, Notes, IsObeyed}
use Rattle.nts_reasons.specs.Running.{AreReasonsOf}
use Rattle.nts_reasons.proofs.Offered.{clause_reasons}

-- the statement is about this trait
abbrev IsAbout : ℕ → Tree → Type 0
IsAbout n t = (ts : Tree) × (t ≡ node (label.Clause (clause.Trait n)) ts)

-- what is bound first is bound in the first predicate
record HasFirst (ps : List BoundStatement) (b : BoundStatement) : Type 0 where
  first : BoundStatement
  others : List BoundStatement
  are : ps ≡ first ∷ others
  same : first.statement ≡ b.statement

first_bound : (s : Sort) (ps : List BoundStatement) (b : BoundStatement) (bs : List BoundStatement) → binding_first s ps ≡ b ∷ bs → HasFirst ps b
first_bound s [] b bs e = cc
first_bound s (p ∷ ps) b bs e =
    let same : record p { binds = s ∷ p.binds } ≡ b = cc in
    record { first = p; others = ps; are = refl; same = ap (λ x. x.statement) same }

-- where the first predicate is about a trait, that is the first one that nodes name
first_named : (v : Values) (rs : List Resolved) (b : BoundStatement) (bs : List BoundStatement) (n : ℕ) → (nodes_meaning v rs).predicates ≡ b ∷ bs → IsAbout n b.statement → trait_of rs ≡ Some n
first_named v [] b bs n e h = cc
first_named v (nodes.Binds s ∷ rs) b bs n e h =
    let f = first_bound s (nodes_meaning v rs).predicates b bs e in
    first_named v rs f.first f.others n f.are (h.0, f.same ∙ h.1)
first_named v (nodes.Trait i k ∷ rs) b bs n e h =
    let m = nodes_meaning v rs in
    let same : binding_nothing (term_of v (nodes.Trait i k) (take k m.arguments)) ≡ b = cc in
    let t : term_of v (nodes.Trait i k) (take k m.arguments) ≡ node (label.Clause (clause.Trait n)) h.0 = ap (λ x. x.statement) same ∙ h.1 in
    let is : i ≡ n = cc in
    ap Some is
first_named v (nodes.TypeOutlives ∷ rs) b bs n e h =
    let m = nodes_meaning v rs in
    let same : binding_nothing (term_of v nodes.TypeOutlives (take 2 m.arguments)) ≡ b = cc in
    let t : term_of v nodes.TypeOutlives (take 2 m.arguments) ≡ node (label.Clause (clause.Trait n)) h.0 = ap (λ x. x.statement) same ∙ h.1 in
    cc
first_named v (nodes.RegionOutlives ∷ rs) b bs n e h =
    let m = nodes_meaning v rs in
    let same : binding_nothing (term_of v nodes.RegionOutlives (take 2 m.arguments)) ≡ b = cc in
    let t : term_of v nodes.RegionOutlives (take 2 m.arguments) ≡ node (label.Clause (clause.Trait n)) h.0 = ap (λ x. x.statement) same ∙ h.1 in
    cc
first_named v (nodes.Normalizes i k ∷ rs) b bs n e h =
    let m = nodes_meaning v rs in
    let same : binding_nothing (term_of v (nodes.Normalizes i k) (take (suc k) m.arguments)) ≡ b = cc in
    let t : term_of v (nodes.Normalizes i k) (take (suc k) m.arguments) ≡ node (label.Clause (clause.Trait n)) h.0 = ap (λ x. x.statement) same ∙ h.1 in
    cc
first_named v (r ∷ rs) b bs n e h = first_named v rs b bs n e h

-- the trait of a clause is the one that the words of its head name
trait_of-rule : (ts : List Tree) (head body : List Resolved) (c : Clause) → IsRuleOf ts head body c → trait_of head ≡ Some c.trait_id.number
trait_of-rule ts head body c h = first_named (values_in ts h.variables h.values) head (binding_nothing (head_of ts c)) [] c.trait_id.number h.head (more (tree_at ts c.head.node) empty, refl)

one_more : {A : Type 0} (b : Bool) (ls : List ℕ) (cs : List A) (l : ℕ) (c : A) → length ls ≡ length cs → length (if b then ls ++ l ∷ [] else ls) ≡ length (if b then cs ++ c ∷ [] else cs)
one_more true ls cs l c h = omega (arith, h, length-append ls (l ∷ []), length-append cs (c ∷ []))
one_more false ls cs l c h = h

pub same_lines : (a b : Explainer) → b.lines ≡ a.lines → ((i : ℕ) → clauses_of b.program.clauses i ≡ clauses_of a.program.clauses i) → HasLines a → HasLines b
same_lines a b l c h = λ i. ap (λ x. length (lines_of x i)) l ∙ h i ∙ sym (ap length (c i))

module _ (a b : Explainer) (n : ℕ) where
  by_rule : (c : Clause) (t : ℕ) → t ≡ c.trait_id.number → AddsClause a.program.clauses b.program.clauses c → NotesLine a.lines b.lines t n → HasLines a → HasLines b
  by_rule c t same adds notes h = λ i.
      ap length (notes i) ∙ ap (λ k. length (if i == k then lines_of a.lines i ++ n ∷ [] else lines_of a.lines i)) same
      ∙ one_more (i == c.trait_id.number) (lines_of a.lines i) (clauses_of a.program.clauses i) n c (h i) ∙ sym (ap length (adds.clauses i))

  by_command : (command : Command) (o : Option Asked) → Follows a.program b.program command (answer_of o) → Notes a.lines b.lines n command → HasLines a → HasLines b
  by_command (commands.Mode m) o f k h = same_lines a b k (λ i. ap (λ x. clauses_of x i) f.1.2) h
  by_command (commands.Depth d) o f k h = same_lines a b k (λ i. ap (λ x. clauses_of x i) f.1.1.clauses) h
  by_command (commands.Type t ps) o f k h = same_lines a b k (λ i. ap (λ x. clauses_of x i) f.1.1.clauses) h
  by_command (commands.Trait t true) o f k h = same_lines a b k f.1.1.clauses h
  by_command (commands.Trait t false) o f k h = same_lines a b k (λ i. ap (λ x. clauses_of x i) f.1.1.clauses) h
  by_command (commands.Impl head body) o f k h =
      let r = f.1 in
      let e : Some k.0 ≡ Some r.0.trait_id.number = sym k.1 ∙ trait_of-rule b.program.cx.nodes head.items body.items r.0 r.2 in
      let same : k.0 ≡ r.0.trait_id.number = cc in
      by_rule r.0 k.0 same r.1 k.2 h
  by_command (commands.Alias t true) o f k h = same_lines a b k f.1.1.clauses h
  by_command (commands.Alias t false) o f k h = same_lines a b k (λ i. ap (λ x. clauses_of x i) f.1.1.clauses) h
  by_command (commands.Norm head body) o f k h = same_lines a b k f.1.1.clauses h
  by_command (commands.Goal rs) o f k h = same_lines a b k (λ i. ap (λ x. clauses_of x i) f.4.clauses) h
  by_command (commands.Env rs) o f k h = same_lines a b k (λ i. ap (λ x. clauses_of x i) f.1.2) h

-- a line that is obeyed keeps the step
pub lines_kept : {E : Type 0} (r : Result (Option Asked) E) (number : ℕ) (line : List ℕ) (old new : Explainer) → IfOk r (IsObeyed number line old new) → OnOk r (HasLines old → HasLines new)
lines_kept (Err e) number line old new h = tt
lines_kept (Ok o) number line old new (inl h) = same_lines old new h.lines (λ i. ap (λ x. clauses_of x i) h.passes.rules.clauses)
lines_kept (Ok o) number line old new (inr h) = by_command old new number h.command o h.does.follows h.does.notes

-- to bind a variable makes no predicate
none_bound : (s : Sort) (ps : List BoundStatement) → binding_first s ps ≡ [] → ps ≡ []
none_bound s [] e = refl
none_bound s (p ∷ ps) e = cc

record IsAlone (ps : List BoundStatement) (b : BoundStatement) : Type 0 where
  first : BoundStatement
  are : ps ≡ first ∷ []
  same : first.statement ≡ b.statement

one_bound : (s : Sort) (ps : List BoundStatement) (b : BoundStatement) → binding_first s ps ≡ b ∷ [] → IsAlone ps b
one_bound s [] b e = cc
one_bound s (p ∷ ps) b e =
    let same : record p { binds = s ∷ p.binds } ≡ b = cc in
    let none : ps ≡ [] = cc in
    record { first = p; are = ap (λ xs. p ∷ xs) none; same = ap (λ x. x.statement) same }

-- nodes that say no predicate name no trait
none_named : (v : Values) (rs : List Resolved) → (nodes_meaning v rs).predicates ≡ [] → trait_of rs ≡ None
none_named v [] e = refl
none_named v (nodes.Binds s ∷ rs) e = none_named v rs (none_bound s (nodes_meaning v rs).predicates e)
none_named v (nodes.Trait i k ∷ rs) e = cc
none_named v (nodes.TypeOutlives ∷ rs) e = cc
none_named v (nodes.RegionOutlives ∷ rs) e = cc
none_named v (nodes.Normalizes i k ∷ rs) e = cc
none_named v (r ∷ rs) e = none_named v rs e

-- the one predicate that nodes say is about the trait that they name
named_first : (v : Values) (rs : List Resolved) (b : BoundStatement) (n : ℕ) → (nodes_meaning v rs).predicates ≡ b ∷ [] → trait_of rs ≡ Some n → (x : Tree) × (b.statement ≡ node (label.Clause (clause.Trait n)) (more x empty))
named_first v [] b n e h = cc
named_first v (nodes.Binds s ∷ rs) b n e h =
    let f = one_bound s (nodes_meaning v rs).predicates b e in
    let a = named_first v rs f.first n f.are h in
    (a.0, sym f.same ∙ a.1)
named_first v (nodes.Trait i k ∷ rs) b n e h =
    let args = argument_list (take k (nodes_meaning v rs).arguments) in
    let same : binding_nothing (term_of v (nodes.Trait i k) (take k (nodes_meaning v rs).arguments)) ≡ b = cc in
    let is : i ≡ n = cc in
    (args, sym (ap (λ x. x.statement) same) ∙ ap (λ j. node (label.Clause (clause.Trait j)) (more args empty)) is)
named_first v (nodes.TypeOutlives ∷ rs) b n e h =
    let none : (nodes_meaning v rs).predicates ≡ [] = cc in
    let no : trait_of rs ≡ None = none_named v rs none in
    let some : trait_of rs ≡ Some n = h in
    cc
named_first v (nodes.RegionOutlives ∷ rs) b n e h =
    let none : (nodes_meaning v rs).predicates ≡ [] = cc in
    let no : trait_of rs ≡ None = none_named v rs none in
    let some : trait_of rs ≡ Some n = h in
    cc
named_first v (nodes.Normalizes i k ∷ rs) b n e h =
    let none : (nodes_meaning v rs).predicates ≡ [] = cc in
    let no : trait_of rs ≡ None = none_named v rs none in
    let some : trait_of rs ≡ Some n = h in
    cc
named_first v (r ∷ rs) b n e h = named_first v rs b n e h

record IsSaidBy (ps : List BoundStatement) (t : Tree) : Type 0 where
  one : BoundStatement
  are : ps ≡ one ∷ []
  is : predicate_tree one ≡ t

said_by : (ps : List BoundStatement) (t : Tree) → map predicate_tree ps ≡ t ∷ [] → IsSaidBy ps t
said_by [] t e = cc
said_by (p ∷ []) t e = (let same : predicate_tree p ≡ t = cc in record { one = p; are = refl; is = same })
said_by (p ∷ q ∷ ps) t e = cc

-- the goal of nodes is of the trait that they name
goal_named : (ts : List Tree) (env : Option ParamEnv) (variables : LineVariables) (values : List GenericArg) (rs : List Resolved) (g : Goal) (n : ℕ) → IsGoalOf ts env variables values rs g → trait_of rs ≡ Some n
    → (x : Tree) × (trait_in_goal (tree_at ts g.predicate.node) ≡ Some (n, x))
goal_named ts env variables values rs g n h named =
    let v = values_in ts variables values in
    let s = said_by (nodes_meaning v rs).predicates (tree_at ts g.predicate.node) h.said in
    let a = named_first v rs s.one n s.are named in
    (a.0, ap trait_in_goal (sym s.is) ∙ ap trait_read a.1)

-- the goal that nodes say has no reason, or one for each line of an impl of its trait at least
pub line_reasons : (e : Explainer) (rs : List Resolved) (reasons : List Reason) → HasLines e → AreReasonsOf e.program rs reasons → (reasons ≡ []) ⊎ (length (lines_for e.lines (trait_of rs)) ≤ length reasons)
line_reasons e rs reasons lines are = by_trait (trait_of rs) refl
  where
    by_trait : (o : Option ℕ) → trait_of rs ≡ o → (reasons ≡ []) ⊎ (length (lines_for e.lines o) ≤ length reasons)
    by_trait None named = (let none : length (lines_for e.lines None) ≡ 0 = refl in inr (omega (arith, none)))
    by_trait (Some n) named =
        let posed = are.posed in
        let has = are.has in
        let a = goal_named has.store e.program.env posed.variables posed.values.items rs posed.goal n (are.poses.asked has.store has.extends) named in
        clause_reasons has.store e.program.clauses posed.table.mode posed.table posed.goal n (length (lines_of e.lines n)) a.0 a.1 (sym (lines n)) has.each
