-- Which goals of a candidate are asked. What rules of a handler say of a trait, or of an alias with arguments, has terms in place of its
-- aliases where it is a goal of a candidate. In coherence, where a no says that nothing of that kind is proved, it is not asked as it
-- stands: variables take the places of its aliases first (Posing), and it is left out if one stays; then the candidate is in doubt.
use Rattle.std.specs.Prelude.{◌&&◌, ◌||◌, Bool, true, false, not, if◌then◌else◌, List, [], ◌∷◌}
use Rattle.nts_model.specs.declared.labels.ClauseHead.TheVariants as clause
use Rattle.nts_model.specs.declared.labels.Label.TheVariants as label
use Rattle.nts_model.specs.Terms.Trees.{Tree, node, any_label, is_alias}
use Rattle.nts_model.specs.Derivations.Sequents.{Premise}
use Rattle.nts_model.specs.Derivations.Rules.{Mode, coherence, statement_of}

-- statements of the engine's own kinds, and those whose aliases stay
abbrev pub is_engines : Tree → Bool
is_engines (node (label.Clause clause.TypeOutlives) ts) = true
is_engines (node (label.Clause clause.RegionOutlives) ts) = true
is_engines (node (label.Clause clause.ConstArgHasType) ts) = true
is_engines (node (label.Clause clause.WellFormed) ts) = true
is_engines (node (label.Clause clause.ConstEvaluatable) ts) = true
is_engines (node (label.Clause (clause.UnstableFeature f)) ts) = true
is_engines (node (label.Predicate p) ts) = true
is_engines t = false

-- a goal that says one, or in which no alias stands
abbrev pub is_asked : Tree → Bool
is_asked g = is_engines (statement_of g) || not (any_label is_alias g)

abbrev pub those_asked : List Premise → List Premise
those_asked [] = []
those_asked (p ∷ ps) = if is_asked p.predicate then p ∷ those_asked ps else those_asked ps

abbrev pub all_asked : List Premise → Bool
all_asked [] = true
all_asked (p ∷ ps) = is_asked p.predicate && all_asked ps

-- in coherence these are asked, and in each other mode all are
abbrev pub asked_in : Mode → List Premise → List Premise
asked_in coherence ps = those_asked ps
asked_in m ps = ps

abbrev pub asks_all : Mode → List Premise → Bool
asks_all coherence ps = all_asked ps
asks_all m ps = true
