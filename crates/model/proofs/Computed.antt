-- `outcome` and `printed` with all that they compute by open: for cases that hold by computation.
use Prim.Native.Nat.{ℕ}
use mathlib.Core.List.{List}
use Rattle.model.specs.Basics.{tab}
use Rattle.model.specs.Book.Syntax.{dst_of}
use Rattle.model.specs.Book.Words.{words_of, bytes_of}
use Rattle.model.specs.Book.Contents.{members, entry_fits, count_fits, contents_refusal}
use Rattle.model.specs.Book.Layout.{form_of}
use Rattle.model.specs.Book.Scan.{step, finish, left, pair, field, walk, instr, scan, scan_table, scan_counter, scan_rule, scan_batch, scan_prediction}
use Rattle.model.specs.Book.Decode.{after, past, instr_at, next, read_table, read_counter, read_rule, read_batch, read_prediction, read_step}
use Rattle.model.specs.Book.Read.{body_refusal, bodies_refusal, tables, counters, rules, steps, steps_refusal}
use Rattle.model.specs.Check.{reads_of, held_of, sizes_of, columns_of, check_instr, bound?, check}
use Rattle.model.specs.Machine.Steps.{lanes, missed, read_pair, take_column, take_default, assert_any_ne, begin, end, finish as finish_instr, predict_row, lookup, invoke, serve_missed, stage_list, body, instruction, instructions, predict, step as machine_step, run}
use Rattle.model.specs.Commit.{committed, commit}
use Rattle.model.specs.Answer.{lay_out, answer}
use Rattle.model.specs.Outcome.{Lent, Outcome, rule_refusal, rules_refusal, words_refusal, book_refusal, ran, end_refusal, refusal, outcome}
use Rattle.model.specs.Printed.{Line, printed}

unfoldable pub computed : Lent → List ℕ → Outcome × List Line
unfolding tab dst_of words_of bytes_of members entry_fits count_fits contents_refusal form_of step finish left pair field walk instr scan scan_table scan_counter scan_rule scan_batch scan_prediction after past instr_at next read_table read_counter read_rule read_batch read_prediction read_step body_refusal bodies_refusal tables counters rules steps steps_refusal reads_of held_of sizes_of columns_of check_instr bound? check lanes missed read_pair take_column take_default assert_any_ne begin end finish_instr predict_row lookup invoke serve_missed stage_list body instruction instructions predict machine_step run committed commit lay_out answer rule_refusal rules_refusal words_refusal book_refusal ran end_refusal refusal outcome printed
computed l book = (outcome l book, printed l book)
