-- The value of a word is the operator to which it carries, and a state that has come meets its goal.
use Rattle.std.proofs.Common.{◌≡◌, List, [], ◌∷◌, ap, sym, subst, arith}
use Rattle.sel_algebra.specs.declared.vocabulary.Op.{Op}
use Rattle.sel_algebra.specs.declared.vocabulary.Op.TheVariants.{Equal}
use Rattle.sel_algebra.specs.declared.vocabulary.Kind.{Kind}
use Rattle.sel_algebra.specs.declared.vocabulary.Symbol.{Symbol}
use Rattle.sel_algebra.specs.Operators.{typed_composition, IsNormal}
use Rattle.sel_algebra.specs.Table.{kind_at}
use Rattle.schema_graph.specs.Schema.{SchemaValue}
use Rattle.sel_graph.specs.declared.states.State.{State}
use Rattle.sel_graph.specs.Runs.{Runs}
use Rattle.sel_graph.specs.Walks.{CarriesBySymbol}
use Rattle.sel_graph.specs.Laws.{WalksHaveValues, ValuesAreNormal, FinishedStatesMeet}
use Rattle.sel_graph.proofs.RunLemmas.{can_run-none}
use Rattle.sel_graph.proofs.MoveLemmas.{meets_agree}
use Rattle.sel_graph.specs.Numbers.{all_moves}
use Rattle.sel_graph.specs.Tests.{move_on, meets}
use Rattle.sel_graph.specs.Values.{value_from}

pub walks_have_values : WalksHaveValues
walks_have_values g [] s t same = ap (λ x. x.op) (sym same)
walks_have_values g (c ∷ word) s t (u, carries, runs) =
    subst (λ x. t.op ≡ value_from g (kind_at g.kinds x.start) x.op word) (sym carries.2) (walks_have_values g word u t runs)

-- what is composed is normal, and the equal operator between a kind and itself
composed_normal : (k l : Kind) (a b : Op) → IsNormal (typed_composition a b k l) k l
composed_normal k l a b = grind arith

equal_normal : (k : Kind) → IsNormal Equal k k
equal_normal k = grind arith

keeps_normal : (g : SchemaValue) (word : List Symbol) (s t : State) → Runs (CarriesBySymbol g) word s t → IsNormal s.op (kind_at g.kinds s.start) (kind_at g.kinds s.at)
    → IsNormal t.op (kind_at g.kinds t.start) (kind_at g.kinds t.at)
keeps_normal g [] s t same normal = subst (λ x. IsNormal x.op (kind_at g.kinds x.start) (kind_at g.kinds x.at)) same normal
keeps_normal g (c ∷ word) s t (u, carries, runs) normal =
    keeps_normal g word u t runs (subst (λ x. IsNormal x.op (kind_at g.kinds x.start) (kind_at g.kinds x.at)) carries.2 (composed_normal _ _ _ _))

pub values_are_normal : ValuesAreNormal
values_are_normal g word t u v runs = keeps_normal g word _ _ runs (equal_normal (kind_at g.kinds t))

pub finished_states_meet : FinishedStatesMeet
finished_states_meet r is goal s can = (meets_agree r is goal s).0 (rw (can_run-none (move_on r) (all_moves _) (meets r goal) s) at can)
