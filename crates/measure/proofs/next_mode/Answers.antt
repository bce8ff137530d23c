-- `next_mode`: by the cases of the mode, and in each by the choices of `next`.
use Rattle.logic.proofs.Choice.{picks}
use Rattle.measure.specs.Escapes.{next}
use Rattle.measure.proofs.Cases.{next_of}
use borrow.Author.Rules.{rules}
use Rattle.measure.proofs.next_mode.Goals as goal

pub enum_told-1 : goal.enum_told-1
enum_told-1 c = search (next_of, picks, rules) depth 8

pub enum_told-in-Esc : goal.enum_told-in-Esc
enum_told-in-Esc c = search (next_of, picks, rules) depth 8

pub enum_told-in-Csi : goal.enum_told-in-Csi
enum_told-in-Csi c = search (next_of, picks, rules) depth 8

pub enum_told-in-Osc : goal.enum_told-in-Osc
enum_told-in-Osc c = search (next_of, picks, rules) depth 8

pub enum_told-in-OscEsc : goal.enum_told-in-OscEsc
enum_told-in-OscEsc c = search (next_of, picks, rules) depth 8

pub returns-then-c-eq-ESC : goal.returns-then-c-eq-ESC
unfolding next
returns-then-c-eq-ESC c = search (next_of, picks, rules) depth 8

pub returns-else-c-eq-ESC : goal.returns-else-c-eq-ESC
unfolding next
returns-else-c-eq-ESC c = search (next_of, picks, rules) depth 8

pub returns-then-c-eq-LEFT_BRACKET : goal.returns-then-c-eq-LEFT_BRACKET
unfolding next
returns-then-c-eq-LEFT_BRACKET c = search (next_of, picks, rules) depth 8

pub returns-then-c-eq-RIGHT_BRACKET : goal.returns-then-c-eq-RIGHT_BRACKET
unfolding next
returns-then-c-eq-RIGHT_BRACKET c = search (next_of, picks, rules) depth 8

pub returns-else-c-eq-RIGHT_BRACKET : goal.returns-else-c-eq-RIGHT_BRACKET
unfolding next
returns-else-c-eq-RIGHT_BRACKET c = search (next_of, picks, rules) depth 8

pub returns-then-c : goal.returns-then-c
unfolding next
returns-then-c c = search (next_of, picks, rules) depth 8

pub returns-else-c : goal.returns-else-c
unfolding next
returns-else-c c = search (next_of, picks, rules) depth 8

pub returns-then-c-eq-BEL : goal.returns-then-c-eq-BEL
unfolding next
returns-then-c-eq-BEL c = search (next_of, picks, rules) depth 8

pub returns-then-c-eq-ESC-2 : goal.returns-then-c-eq-ESC-2
unfolding next
returns-then-c-eq-ESC-2 c = search (next_of, picks, rules) depth 8

pub returns-else-c-eq-ESC-2 : goal.returns-else-c-eq-ESC-2
unfolding next
returns-else-c-eq-ESC-2 c = search (next_of, picks, rules) depth 8

pub returns-then-c-2 : goal.returns-then-c-2
unfolding next
returns-then-c-2 c = search (next_of, picks, rules) depth 8

pub returns-then-c-eq-ESC-3 : goal.returns-then-c-eq-ESC-3
unfolding next
returns-then-c-eq-ESC-3 c = search (next_of, picks, rules) depth 8

pub returns-else-c-eq-ESC-3 : goal.returns-else-c-eq-ESC-3
unfolding next
returns-else-c-eq-ESC-3 c = search (next_of, picks, rules) depth 8
