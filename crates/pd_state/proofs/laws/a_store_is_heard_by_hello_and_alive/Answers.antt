use Rattle.pd_state.proofs.HeardLemmas.{alive_refused, began_alike, heard_itself, heard_other, hello_refused}
use Rattle.pd_state.proofs.laws.a_store_is_heard_by_hello_and_alive.Goals as goal

pub returns-clause-hello : goal.returns-clause-hello
returns-clause-hello c store moment address labels before = heard_itself store moment before

pub returns-clause-alive : goal.returns-clause-alive
returns-clause-alive c store moment before = heard_itself store moment before

pub returns-clause-refused : goal.returns-clause-refused
returns-clause-refused c store at moment reply before other = alive_refused reply store at moment before other

pub returns-clause-other : goal.returns-clause-other
returns-clause-other c store at moment before other = heard_other store at moment before other

pub returns-clause-unput : goal.returns-clause-unput
returns-clause-unput c store at moment address labels reply before other = hello_refused reply store at moment before other

pub returns-clause-greets : goal.returns-clause-greets
returns-clause-greets c store at moment address labels before other = heard_other store at moment before other

pub returns-clause-began : goal.returns-clause-began
returns-clause-began c = began_alike
