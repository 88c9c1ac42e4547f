-- An alias and a variable that is made an alias of that head over new variables: what relating the two leaves, and where it is refused.
use Rattle.std.proofs.Common.{◌≡◌, inl, inr, ℕ, suc, true, List, [], ◌∷◌, length, Some, refl, sym, ap, ◌∙◌, subst, arith}
use Rattle.std.specs.Prelude.{All}
use Rattle.nts_model.specs.declared.labels.Sort.{Sort}
use Rattle.nts_model.specs.declared.labels.Variance.{Variance}
use Rattle.nts_model.specs.declared.labels.Variance.TheVariants as variance
use Rattle.nts_model.specs.Terms.Trees.{Tree, Place, empty, more, node, children, row_length, kind_of, arguments}
use Rattle.nts_model.specs.Tables.Contents.{Content}
use Rattle.nts_model.specs.Tables.Resolving.{IsSound, Knows}
use Rattle.nts_model.specs.Tables.Equations.{AreRelated, AreUnrelated}
use Rattle.nts_model.specs.Tables.Alike.{AreAlike}
use Rattle.nts_model.specs.Tables.Tying.{TiesNew}
use Rattle.nts_model.specs.declared.labels.Leaf.TheVariants as leaf
use Rattle.nts_model.specs.Terms.Substitutions.{leaf_tree}
use Rattle.nts_model.specs.Tables.Worlds.{World, Agrees}
use Rattle.nts_model.specs.Derivations.Related.{region_constraint, rest_variances}
use Rattle.nts_model.proofs.Tables.Alike.{AreAlike-continues}
use Rattle.nts_model.proofs.Tables.Slots.{Knows-kept}
use Rattle.nts_variance_model.specs.Variances.Relations.{Relating as Pair, ArePairsKnown, IsSettledWorld}
use Rattle.nts_variance_model.specs.Variances.Judging.{IsSettled}
use Rattle.nts_variance_model.specs.Variances.Forms.{pairs_over}
use Rattle.nts_variance_model.specs.Variances.Leaving.{Judge, judging_of, Judges, Refuses}
use Rattle.nts_variance_model.proofs.Variances.Generalizing.{judged_agrees, settle_agrees}
use Rattle.nts_variance_model.proofs.Variances.Tied.{settled_tied}
use Rattle.nts_store.specs.declared.nodes.NodeId.{NodeId}
use Rattle.nts_store.specs.Growth.{tree_at, IsIn, Extends}
use Rattle.nts_terms.specs.declared.handles.AliasDefId.{AliasDefId}
use Rattle.nts_terms.specs.declared.handles.AliasTerm.{AliasTerm}
use Rattle.nts_terms.specs.declared.handles.DefId.TheVariants as def
use Rattle.nts_terms.specs.declared.handles.Goal.{Goal}
use Rattle.nts_terms.specs.declared.handles.ParamEnv.{ParamEnv}
use Rattle.nts_terms.specs.Handles.{alias_head, HoldsEnv}
use Rattle.nts_terms.specs.Signatures.{Declared, HaveSorts, AreArgumentsOfSorts, AreDeclared, variances_in}
use Rattle.nts_terms.proofs.Standing.{args_tree}
use Rattle.nts_terms.proofs.Moved.{Holds-extended}
use Rattle.nts_unify.specs.Entries.{Entries}
use Rattle.nts_unify.specs.Reading.{content_of, IsLawful}
use Rattle.nts_unify.specs.Lawful.{content_of-extended}
use Rattle.nts_table.specs.Tables.{Table, IsTable, IsSide}
use Rattle.nts_table.specs.Fresh.{with_fresh, fresh_row}
use Rattle.nts_table.proofs.TermTables.{known_all}
use Rattle.nts_variance.specs.Rows.{argument_pairs}
use Rattle.nts_solver_relating.specs.Sides.{is_list, RefusesSides}
use Rattle.nts_meaning.specs.Evaluation.{Goes, IsPosed}
use Rattle.nts_meaning.proofs.Evaluating.{Knows-goes}
use Rattle.nts_adding.specs.Rigid.{TakesSorts, new_arguments, new_alias, IsNewAlias, BecomesAlias, RelatesRigidly, RefusesEqual, RefusesAlias}
use Rattle.nts_adding.proofs.Known.{goals_posed}
use Rattle.nts_adding.proofs.NewVariables.{kinds_new, knows_new, knows_alias, lawful_new}

-- the arguments of the alias are as many as the new variables
lengths : (ss : List Sort) (n : ℕ) (t : Tree) → HaveSorts ss t → row_length t ≡ row_length (fresh_row n ss)
lengths [] n empty h = refl
lengths [] n (more a b) h = absurd h
lengths [] n (node l c) h = absurd h
lengths (s ∷ ss) n empty h = absurd h
lengths (s ∷ ss) n (more a b) h = (let rest = lengths ss (suc n) b h.1 in omega (arith, rest))
lengths (s ∷ ss) n (node l c) h = absurd h

pub as_many : (d : Declared) (a : AliasDefId) (ss : List Sort) (n : ℕ) (t : Tree) → TakesSorts d a ss → AreDeclared d (def.Alias a) t → row_length (children t) ≡ row_length (fresh_row n ss)
as_many d a ss n t takes declared = lengths ss n (children t) (subst (λ o. AreArgumentsOfSorts o t) takes declared)

-- the pairs of two lists are of the table
rows_known : (c : Content) (v : Variance) (ws : List Variance) (a b : Tree) → Knows c a → Knows c b → ArePairsKnown c (pairs_over v ws a b)
rows_known c v ws empty b h k = tt
rows_known c v ws (node l x) b h k = tt
rows_known c v ws (more x a) empty h k = tt
rows_known c v ws (more x a) (node l y) h k = tt
rows_known c v ws (more x a) (more y b) h k = (h.0, k.0, rows_known c v (rest_variances ws) a b h.1 k.1)

children_known : (c : Content) (t : Tree) → Knows c t → Knows c (children t)
children_known c empty h = tt
children_known c (more a b) h = tt
children_known c (node l x) h = h.1

-- a world that agrees is judged alike
judges_agree : (declared : ℕ → List Variance) (j : Judge declared) (n : ℕ) (w v : World) → Agrees n w v → Judges declared j w → Judges declared j v
judges_agree declared j n w v a h =
    record {
      judged = judged_agrees (judging_of declared j) j.lawful n w v a h.judged;
      alone = λ p t r e k. (let is : leaf_tree (leaf.Region (v.region r)) ≡ leaf_tree (leaf.Region (w.region r)) = ap (λ x. leaf_tree (leaf.Region x)) (a.regions r) in
          h.alone p t r e (subst (λ x. (judging_of declared j).holds (region_constraint p t x)) is k) ∙ sym is);
    }

-- what no settled solution relates where the two trees are one, none of the table before relates where they are
pub refused_before : (declared : ℕ → List Variance) (c d : Content) (t u : Tree) (ps : List Pair) → IsSound d → AreRelated c d t u → TiesNew c d → ArePairsKnown c ps → Refuses declared d ps → RefusesEqual declared c t u ps
refused_before declared c d t u ps sound made ties known r =
    record {
      none = λ j w solves judges settled one all.
          (let J = judging_of declared j in
          let e = made.complete w solves one in
          let kept : IsSettledWorld J c e.world = record { each = λ n l. subst (IsSettled J) (sym (e.agrees.trees n l)) (settled.each n l) } in
          r.none j e.world e.solves (judges_agree declared j (length c.slots) w e.world e.agrees judges) (settled_tied J j.lawful c d e.world sound e.solves ties kept) (settle_agrees J j.lawful c w e.world ps e.agrees known all));
    }

refused_lists : (declared : ℕ → List Variance) (c d : Content) (v : Variance) (a b t u : Tree) → kind_of a ≡ Some arguments → row_length (children a) ≡ row_length (children b) → IsSound d → AreRelated c d t u → TiesNew c d → Knows c a → Knows c b
    → RefusesSides declared d v a b → RefusesEqual declared c t u (argument_pairs a b)
refused_lists declared c d v a b t u kind long sound made ties ka kb (inl apart) = absurd (apart (λ h. long))
refused_lists declared c d v a b t u kind long sound made ties ka kb (inr r) =
    let is : is_list a ≡ true = ap is_list (args_tree a kind) in
    refused_before declared c d t u (argument_pairs a b) sound made ties (rows_known c variance.Invariant [] (children a) (children b) (children_known c a ka) (children_known c b kb)) (rw is at r)

-- the alias and the term are refused
module _ (d : Declared) (ts : List Tree) (e : Entries) (a : AliasTerm) (t : NodeId) (ss : List Sort) (takes : TakesSorts d a.def_id ss) where
  pub refused_equal : AreUnrelated (content_of ts (with_fresh e ss)) (tree_at ts t) (new_alias (alias_head a.def_id) (length e.variables) ss) → RefusesAlias d ts e a t
  refused_equal r = record { sorts = ss; takes = takes; refuses = record { none = λ j w solves judges settled one all. r.none w solves one } }

  pub refused_related : (us : List Tree) (f : Entries) (v : Variance) → kind_of (tree_at ts a.args.node) ≡ Some arguments → AreDeclared d (def.Alias a.def_id) (tree_at ts a.args.node) → Knows (content_of ts e) (tree_at ts a.args.node) → IsLawful us f → BecomesAlias ts us e f (alias_head a.def_id) ss (tree_at ts t)
      → RefusesSides (variances_in d) (content_of us f) v (tree_at ts a.args.node) (new_arguments (length e.variables) ss) → RefusesAlias d ts e a t
  refused_related us f v kind declared knows lawful becomes r =
      let c = content_of ts (with_fresh e ss) in
      let x = tree_at ts a.args.node in
      record {
        sorts = ss;
        takes = takes;
        refuses = refused_lists (variances_in d) c (content_of us f) v x (new_arguments (length e.variables) ss) (tree_at ts t) (new_alias (alias_head a.def_id) (length e.variables) ss) kind (as_many d a.def_id ss (length e.variables) x takes declared) lawful.sound becomes.made becomes.ties
            (Knows-kept (content_of ts e) c x (kinds_new ts e ss) knows) (knows_new ts e ss) r;
      }

-- the term stays the alias, while the table goes on
alike_later : {a b : List Tree} {t u : Table} (x y : Tree) → IsTable a t → Goes a b t u → Knows (content_of a t.entries) x → Knows (content_of a t.entries) y → AreAlike (content_of a t.entries) x y → AreAlike (content_of b u.entries) x y
alike_later {a} {b} {t} {u} x y w g kx ky h =
    AreAlike-continues (content_of a t.entries) (content_of b u.entries) x y w.now.sound (let v = g.table in v.now.sound) g.continues (known_all w) kx ky h

known_made : {ts us : List Tree} {e f : Entries} {h : _} {ss : List Sort} {x : Tree} → BecomesAlias ts us e f h ss x → Knows (content_of us f) (new_alias h (length e.variables) ss)
known_made {ts} {us} {e} {f} {h} {ss} b =
    let k = b.made.continues in
    Knows-kept (content_of ts (with_fresh e ss)) (content_of us f) (new_alias h (length e.variables) ss) (record { grows = k.grows; kinds = k.kinds }) (knows_alias ts e h ss)

pub becomes_new : {us ws : List Tree} {u v : Table} (d : Declared) (ts : List Tree) (e : Entries) (a : AliasDefId) (ss : List Sort) (x : Tree) → TakesSorts d a ss → IsTable us u → Goes us ws u v → Knows (content_of us u.entries) x → BecomesAlias ts us e u.entries (alias_head a) ss x
    → IsNewAlias d a e (content_of ws v.entries) x
becomes_new d ts e a ss x takes w g knows b =
    let m = b.made in
    record { sorts = ss; takes = takes; is = alike_later x (new_alias (alias_head a) (length e.variables) ss) w g knows (known_made b) m.alike }

pub new_later : {us ws : List Tree} {u v : Table} {env : ParamEnv} {p : Variance} {gs : List Goal} (d : Declared) (ts : List Tree) (e : Entries) (a : AliasTerm) (t : NodeId) (x : Tree) → IsTable us u → Goes us ws u v → Knows (content_of us u.entries) x
    → RelatesRigidly d ts us e u.entries env p a t gs → IsNewAlias d a.def_id e (content_of us u.entries) x → IsNewAlias d a.def_id e (content_of ws v.entries) x
new_later {us} {ws} {u} {v} d ts e a t x w g knows r n =
    let k = r.related.related.takes.continues in
    let one : Some r.sorts ≡ Some n.sorts = sym r.takes ∙ n.takes in
    let same : r.sorts ≡ n.sorts = cc one in
    let there : Knows (content_of us u.entries) (new_alias (alias_head a.def_id) (length e.variables) r.sorts) =
    Knows-kept (content_of r.store r.entries) (content_of us u.entries) (new_alias (alias_head a.def_id) (length e.variables) r.sorts) (record { grows = k.grows; kinds = k.kinds }) (known_made r.becomes) in
    record { sorts = n.sorts; takes = n.takes; is = alike_later x (new_alias (alias_head a.def_id) (length e.variables) n.sorts) w g knows (subst (λ ss. Knows (content_of us u.entries) (new_alias (alias_head a.def_id) (length e.variables) ss)) same there) n.is }

-- what a side is stays so
pub side_goes : {a b : List Tree} {t u : Table} {p : Place} {x : NodeId} → Goes a b t u → IsSide p a t x → IsSide p b u x
side_goes {a = a} {p = p} {x = x} g s =
    let e = g.extends in
    let h = s.holds in
    record { holds = Holds-extended p x e h; known = rw (e.kept x h.within) (Knows-goes (tree_at a x) g s.known) }

-- the goals that are left are goals of the store and the table
pub rigid_posed : {us : List Tree} {u : Table} {env : ParamEnv} {p : Variance} (d : Declared) (ts : List Tree) (e : Entries) (a : AliasTerm) (t : NodeId) (gs : List Goal) → IsTable us u → HoldsEnv us env → Knows (content_of us u.entries) (tree_at us env.node) → RelatesRigidly d ts us e u.entries env p a t gs → All (IsPosed us u) gs
rigid_posed {us} {u} {env} d ts e a t gs w h k r = (let x = r.related in goals_posed us u env x.pairs gs w h k x.goals)

-- what is said in a store that grew is said in the one before
module _ (ts us : List Tree) (e : Entries) (a : AliasTerm) (t : NodeId) (ext : Extends ts us) (lawful : IsLawful ts e) (within : IsIn ts t) (args : IsIn ts a.args.node) where
  content_before : (ss : List Sort) → content_of us (with_fresh e ss) ≡ content_of ts (with_fresh e ss)
  content_before ss = content_of-extended ext (lawful_new ts e ss lawful)

  pub related_before : (d k : Declared) (ws : List Tree) (f : Entries) (env : ParamEnv) (v : Variance) (gs : List Goal) → k ≡ d → RelatesRigidly k us ws e f env v a t gs → RelatesRigidly d ts ws e f env v a t gs
  related_before d k ws f env v gs same h =
      let r : RelatesRigidly d us ws e f env v a t gs = subst (λ x. RelatesRigidly x us ws e f env v a t gs) same h in
      let b = r.becomes in
      let content = content_before r.sorts in
      let left = ext.kept t within in
      record {
        sorts = r.sorts;
        takes = r.takes;
        store = r.store;
        entries = r.entries;
        becomes = record { made = rw (content, left) at b.made; ties = rw content at b.ties; labels = rw (content, left) at b.labels };
        related = rw (ext.kept a.args.node args) at r.related;
      }

  pub refuses_before : (d k : Declared) → k ≡ d → RefusesAlias k us e a t → RefusesAlias d ts e a t
  refuses_before d k same h =
      let r : RefusesAlias d us e a t = subst (λ x. RefusesAlias x us e a t) same h in
      record { sorts = r.sorts; takes = r.takes; refuses = rw (content_before r.sorts, ext.kept t within, ext.kept a.args.node args) at r.refuses }
