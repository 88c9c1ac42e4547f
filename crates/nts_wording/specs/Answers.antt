-- The text of answers.
use Rattle.std.specs.Prelude.{◌≡◌, ℕ, Bool, true, false, ◌&&◌, if◌then◌else◌, List, [], ◌∷◌, ◌++◌, Option, None, Some, slice_get, codes}
use Rattle.std.specs.List.{zip}
use Rattle.std.specs.Map.{lookup}
use Rattle.std.specs.Io.KnownBytes.{Appends}
use Rattle.nts_model.specs.declared.labels.Label.{Label}
use Rattle.nts_model.specs.declared.labels.Label.TheVariants as label
use Rattle.nts_model.specs.declared.labels.Leaf.{Leaf}
use Rattle.nts_model.specs.declared.labels.Leaf.TheVariants as leaf
use Rattle.nts_model.specs.declared.labels.Relation.{Relation}
use Rattle.nts_model.specs.declared.labels.Relation.TheVariants as relations
use Rattle.nts_model.specs.Terms.Trees.{Tree, node}
use Rattle.nts_store.specs.Growth.{tree_at}
use Rattle.nts_store.specs.declared.nodes.NodeId.{NodeId}
use Rattle.nts_terms.specs.declared.handles.GenericArg.{GenericArg}
use Rattle.nts_text.specs.Spelled.{type_names, region_names}
use Rattle.nts_text.specs.declared.names.Scope.{Scope}
use Rattle.nts_text.specs.declared.names.NameTable.{NameTable}
use Rattle.nts_unify.specs.declared.contents.Constraint.{Constraint}
use Rattle.nts_wording.specs.declared.answer.Answer.{Answer}
use Rattle.nts_wording.specs.declared.answer.Answer.TheVariants as answers
use Rattle.nts_wording.specs.declared.answer.Found.{Found}
use Rattle.nts_wording.specs.Printing.{Lexicon, Seen, IsText, same_term}

-- how a relation of two terms is written
abbrev pub relation_word : Relation → List ℕ
relation_word relations.Equal = codes " == "
relation_word r = codes ": "

-- a variable's name and its value
abbrev pub Bound : Type 0
Bound = List ℕ × NodeId

abbrev pub bound_to : List ℕ → Option NodeId → List Bound
bound_to name None = []
bound_to name (Some v) = (name, v) ∷ []

abbrev pub node_of : Option GenericArg → Option NodeId
node_of None = None
node_of (Some a) = Some a.node

-- variables with their values: each has a name, and a place among the values
abbrev pub bound_by : List GenericArg → List (List ℕ × ℕ) → List Bound
bound_by values [] = []
bound_by values (p ∷ ps) = bound_to p.0 (node_of (slice_get values p.1)) ++ bound_by values ps

-- the type variables of a goal, and those of regions
abbrev pub bound_types : Scope → Found → List Bound
bound_types s f = bound_by f.values.items (zip (type_names s.variables) f.variables.types.items)

abbrev pub bound_regions : Scope → Found → List Bound
bound_regions s f = bound_by f.values.items (zip (region_names s.variables) f.variables.regions.items)

-- a variable of a table
abbrev pub is_variable_leaf : Leaf → Bool
is_variable_leaf (leaf.Variable k n) = true
is_variable_leaf l = false

abbrev pub is_variable_label : Label → Bool
is_variable_label (label.Leaf l) = is_variable_leaf l
is_variable_label l = false

abbrev pub is_variable : Tree → Bool
is_variable (node l c) = is_variable_label l
is_variable t = false

-- the name that a variable of the table has from a variable of the goal whose value it is
abbrev pub name_by : List Tree → NodeId → Bound → Option (List ℕ)
name_by ts t b = if same_term t b.1 && is_variable (tree_at ts b.1) then Some b.0 else None

abbrev pub first_of : Option (List ℕ) → Option (List ℕ) → Option (List ℕ)
first_of None b = b
first_of (Some a) b = Some a

-- .. from the first of them
abbrev pub name_among : List Tree → NodeId → List Bound → Option (List ℕ)
name_among ts t [] = None
name_among ts t (b ∷ bs) = first_of (name_by ts t b) (name_among ts t bs)

-- each variable of the table has the name of the first of these that it is the value of
abbrev pub AreNames : List Tree → List (NodeId × List ℕ) → List Bound → Type 0
AreNames ts names bs = (t : NodeId) → lookup (same_term t) names ≡ name_among ts t bs

-- the line of a variable and its value
abbrev pub IsValueLine : Lexicon → Seen → Bound → List ℕ → Seen → Type 0
IsValueLine n old b text new =
    (x : List ℕ) × IsText n old (tree_at n.trees b.1) x new × (text ≡ codes "  " ++ b.0 ++ codes " = " ++ x ++ codes "\n")

-- the line of a region constraint
abbrev pub IsFactLine : Lexicon → Seen → Constraint → List ℕ → Seen → Type 0
IsFactLine n old f text new =
    (x y : List ℕ) × (between : Seen) × IsText n old (tree_at n.trees f.left) x between × IsText n between (tree_at n.trees f.right) y new
    × (text ≡ codes "  " ++ x ++ relation_word f.relation ++ y ++ codes "\n")

-- lines, one behind the other
abbrev pub AreLines : {A : Type 0} → (Seen → A → List ℕ → Seen → Type 0) → Seen → List A → List ℕ → Seen → Type 0
AreLines P old [] text new = (text ≡ []) × (new ≡ old)
AreLines P old (a ∷ xs) text new =
    (x y : List ℕ) × (between : Seen) × P old a x between × AreLines P between xs y new × (text ≡ x ++ y)

abbrev pub nothing_seen : Seen
nothing_seen = record { types = []; regions = [] }

-- what is printed of a goal that holds: `yes`, the values of its type variables, and the region constraints
pub record IsFoundText (n : Lexicon) (s : Scope) (f : Found) (text : List ℕ) : Type 0 where
  pub names : AreNames n.trees n.variables (bound_types s f ++ bound_regions s f)
  pub values_text : List ℕ
  pub facts_text : List ℕ
  pub between : Seen
  pub last : Seen
  pub values : AreLines (IsValueLine n) nothing_seen (bound_types s f) values_text between
  pub facts : AreLines (IsFactLine n) between f.facts.items facts_text last
  pub is : text ≡ codes "yes\n" ++ values_text ++ facts_text

-- what terms are printed with, where the variables that are left have these names
abbrev pub lexicon_with : List Tree → NameTable → Scope → List (NodeId × List ℕ) → Lexicon
lexicon_with ts names s variables =
    record { trees = ts; types = names.types.items; aliases = names.aliases.items; parameters = s.parameters; variables = variables }

-- the text of an answer
abbrev pub IsAnswerText : List Tree → NameTable → Scope → Answer → List ℕ → Type 0
IsAnswerText ts names s (answers.Yes f) text = (variables : List (NodeId × List ℕ)) × IsFoundText (lexicon_with ts names s variables) s f text
IsAnswerText ts names s answers.No text = text ≡ codes "no\n"
IsAnswerText ts names s answers.Ambiguity text = text ≡ codes "maybe ambiguity\n"
IsAnswerText ts names s answers.Overflow text = text ≡ codes "maybe overflow\n"

-- the text of an answer is written
abbrev pub IsAnswerPut : List Tree → NameTable → Scope → Answer → Option (List ℕ) → Option (List ℕ) → Type 0
IsAnswerPut ts names s answer before after = (text : List ℕ) × IsAnswerText ts names s answer text × Appends before after text
