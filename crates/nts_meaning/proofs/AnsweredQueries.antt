-- What the table of a query answers, once its goal was evaluated there.
use Rattle.std.proofs.Common.{◌≡◌, ⊎_elim, inl, inr, List, [], ◌∷◌, sym, ap, ◌∙◌, subst, arith}
use Rattle.std.specs.Prelude.{All}
use Rattle.std.proofs.lemmas.List.Elements.{All-head, All-tail, All-cons}
use Rattle.nts_model.specs.Derivations.Proofs.{Assumed}
use Rattle.nts_model.specs.Searching.Stacks.{IsProvedFrom, IsDerivedFrom}
use Rattle.nts_model.specs.Derivations.Proving.{sequent_at}
use Rattle.nts_model.specs.Answers.Responses.{response_of}
use Rattle.nts_theory.proofs.Responses.Closing.{said_instance}
use Rattle.nts_theory.proofs.Derivations.Assuming.{derived_instance}
use Rattle.nts_model.specs.Terms.Trees.{Tree}
use Rattle.nts_model.specs.Tables.Contents.{Content}
use Rattle.nts_model.specs.Tables.Resolving.{Knows}
use Rattle.nts_model.specs.Lists.{Among}
use Rattle.nts_model.specs.Tables.Holding.{Continues}
use Rattle.nts_model.specs.Derivations.Rules.{Meaning, Mode}
use Rattle.nts_model.specs.Terms.Substitutions.{filled}
use Rattle.nts_model.specs.Canonical.Inputs.{CanonicalInput as Form, PositionKind}
use Rattle.nts_model.specs.Tables.Passing.{TreePasses, TablePasses, BringsOnly}
use Rattle.nts_model.specs.Answers.Responses.{Response as Answer, IsQueryTable, IsOverPositions, answer_sequent}
use Rattle.nts_theory.proofs.Responses.Querying.{all_plain, own_in}
use Rattle.nts_model.proofs.Tables.Slots.{Knows-kept}
use Rattle.nts_store.specs.Formed.{AreFormed}
use Rattle.nts_store.specs.Growth.{tree_at, Extends}
use Rattle.nts_store.proofs.Growing.{IsIn-extended}
use Rattle.nts_terms.specs.declared.handles.GenericArg.{GenericArg}
use Rattle.nts_terms.specs.declared.handles.Goal.{Goal}
use Rattle.nts_unify.specs.Entries.{Entries}
use Rattle.nts_unify.specs.Reading.{content_of}
use Rattle.nts_unify.specs.declared.contents.HiddenType.{HiddenType}
use Rattle.nts_table.specs.Tables.{Table, IsTable}
use Rattle.nts_canonical.specs.declared.types.CanonicalInput.{CanonicalInput}
use Rattle.nts_canonical.specs.declared.types.QueryInput.{QueryInput}
use Rattle.nts_canonical.specs.Forms.{form_of, query_tree, trees_of}
use Rattle.nts_canonical.specs.Kinds.{AreInputKinds}
use Rattle.nts_canonical.specs.Building.{IsArgOf, values_of, made_entries}
use Rattle.nts_meaning.specs.Asking.{first_table, first_values, asked_environment, asked_predicate}
use Rattle.nts_theory.specs.Telling.{IsResponseOf}
use Rattle.nts_meaning.specs.Evaluation.{asked_terms}
use Rattle.nts_meaning.proofs.QueryTables.{first_content, first_passes, values_pass, asked_passes, value_formed}
use Rattle.nts_theory.proofs.Refutation.QueryLabels.{is_label_in, queries_pass, labels_in, table_in}
use Rattle.nts_meaning.proofs.Running.{term_table}
use Rattle.nts_theory.proofs.Responses.Asked.{first_part, rest_part}

pub query_environment : (a b : List Tree) (input : CanonicalInput) (q : QueryInput) → query_tree b q ≡ filled (values_of input) (query_tree a input.canonical.value) → tree_at b q.goal.param_env.node ≡ asked_environment (form_of a input)
query_environment a b input q e = first_part _ _ _ _ e

pub query_predicate : (a b : List Tree) (input : CanonicalInput) (q : QueryInput) → query_tree b q ≡ filled (values_of input) (query_tree a input.canonical.value) → tree_at b q.goal.predicate.node ≡ asked_predicate (form_of a input)
query_predicate a b input q e = first_part _ _ _ _ (rest_part _ _ _ _ e)

pub first_entries : (ts : List Tree) (ks : List PositionKind) (e f : Entries) (hs : List HiddenType) → f ≡ e → e ≡ made_entries ks hs → content_of ts f ≡ first_table ks
first_entries ts ks e f hs same is = ap (content_of ts) (same ∙ is) ∙ first_content ts ks hs

-- the values of the positions stay terms of the table
pub args_later : (b d : List Tree) (e f : Entries) (xs : List GenericArg) → Extends b d → Continues (content_of b e) (content_of d f) → All (IsArgOf b e) xs → All (IsArgOf d f) xs
args_later b d e f [] k c h = λ i x l. absurd (omega (arith, l))
args_later b d e f (x ∷ xs) k c h =
    let one = All-head (IsArgOf b e) x xs h in
    let held = one.holds in
    let same = k.kept x.node held.within in
    All-cons (IsArgOf d f) x xs
    (record {
      holds = record { within = IsIn-extended k x.node held.within; fits = rw same held.fits };
      known = rw same (Knows-kept (content_of b e) (content_of d f) (tree_at b x.node) (record { grows = c.grows; kinds = c.kinds }) one.known);
    }) (args_later b d e f xs k c (All-tail (IsArgOf b e) x xs h))

pub args_know : (d : List Tree) (f : Entries) (xs : List GenericArg) (ts : List Tree) → All (IsArgOf d f) xs → trees_of d xs ≡ ts → (t : Tree) → Among ts t → Knows (content_of d f) t
args_know d f [] [] h q t m = absurd m
args_know d f [] (s ∷ ts) h q t m = cc
args_know d f (x ∷ xs) [] h q t m = absurd m
args_know d f (x ∷ xs) (s ∷ ts) h q t m =
    let first : tree_at d x.node ≡ s = cc in
    let rest : trees_of d xs ≡ ts = cc in
    let one = All-head (IsArgOf d f) x xs h in
    ⊎_elim (λ e. subst (Knows (content_of d f)) (first ∙ sym e) one.known) (λ j. args_know d f xs ts (All-tail (IsArgOf d f) x xs h) rest t j) m

-- the table holds no labels but those of its input's kinds
pub query_passes : (b d : List Tree) (p u : Table) (g : Goal) (ks : List PositionKind) (f : Form) → f.kinds ≡ ks → AreInputKinds ks → IsOverPositions f.environment → IsOverPositions f.predicate
    → content_of b p.entries ≡ first_table ks → tree_at b g.param_env.node ≡ asked_environment f → tree_at b g.predicate.node ≡ asked_predicate f → BringsOnly (asked_terms b g) (content_of b p.entries) (content_of d u.entries) → TablePasses (is_label_in ks) (content_of d u.entries)
query_passes b d p u g ks f same kinds env predicate first e r h =
    h.labels (is_label_in ks) (queries_pass ks) passes (rw first (first_passes (is_label_in ks) ks))
  where
    passes : (t : Tree) → Among (asked_terms b g) t → TreePasses (is_label_in ks) t
    passes t (inl i) = rw (i, e, same) (asked_passes ks f.environment kinds env)
    passes t (inr (inl i)) = rw (i, r, same) (asked_passes ks f.predicate kinds predicate)
    passes t (inr (inr i)) = absurd i

pub query_table : {d : List Tree} {v : Table} (ks : List PositionKind) → AreFormed d → IsTable d v → AreInputKinds ks → TablePasses (is_label_in ks) (content_of d v.entries) → ((t : Tree) → Among (first_values ks) t → Knows (content_of d v.entries) t) → IsQueryTable ks (content_of d v.entries) (first_values ks)
query_table {d} {v} ks f w kinds pass known =
    let terms = term_table f w in
    record {
      sound = terms.sound;
      values = terms.values;
      constraints = terms.constraints;
      labels = table_in ks (content_of d v.entries) pass;
      terms = λ t m. (record { knows = known t m; formed = value_formed ks 0 t m }, labels_in ks t (values_pass ks kinds t m));
    }

-- what it says is derived
pub query_says : (ks : List PositionKind) (c : Content) (f : Form) (r : Answer) (m : Meaning) (mode : Mode) (A : List Assumed) → f.kinds ≡ ks → IsQueryTable ks c (first_values ks) → IsResponseOf c (first_values ks) r → IsOverPositions f.environment → IsOverPositions f.predicate
    → IsProvedFrom m mode A c (asked_environment f) (asked_predicate f) → IsDerivedFrom m mode A (answer_sequent f r)
query_says ks c f r m mode A same table says env predicate h =
    let x = says.findings in
    let proved : IsProvedFrom m mode A c (filled (first_values ks) f.environment) (filled (first_values ks) f.predicate) = rw same at h in
    subst (λ z. IsDerivedFrom m mode A (answer_sequent f z)) (sym says.is)
    (derived_instance m mode A _ (sequent_at c (filled (first_values ks) f.environment) (filled (first_values ks) f.predicate)) (answer_sequent f (response_of c says.roots 0 x)) proved
    (said_instance c table.sound ks (first_values ks) says.roots x says.reads (all_plain ks c (first_values ks) x table says.reads says.no_hidden [] says.no_goals (λ y j. absurd j)) (own_in ks c (first_values ks) x table says.reads says.no_hidden [] says.no_goals (λ y j. absurd j)) f env predicate))
