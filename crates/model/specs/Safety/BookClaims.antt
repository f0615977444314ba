-- What demand 3 supposes, and the exactness of the check, for books.
use Rattle.std.specs.Prelude.{ℕ, ◌<◌, ◌≡◌, Bool, List, length, get_or, None}
use Rattle.model.specs.Basics.{All}
use Rattle.model.specs.Book.Words.{Byte, words_of, bytes_refusal}
use Rattle.model.specs.Book.Contents.{contents_refusal, rule_count}
use Rattle.model.specs.Book.Decode.{read_rule}
use Rattle.model.specs.Book.Read.{bodies_refusal, tables, counters, rules, steps, steps_refusal}
use Rattle.model.specs.Check.{check}
use Rattle.model.specs.Machine.Functions.{arity}
use Rattle.model.specs.Outcome.{rule_first, rule_refusal, rules_refusal, words_refusal, book_refusal}
use Rattle.model.specs.Claims.Demand3.{Answers, NeverStale, StepOk, machine, OwnSteps}
use Rattle.model.specs.Claims.CheckExact.{CheckExact}
use Rattle.model.specs.Laws.Logic.{else_none, seq_none}
use Rattle.model.specs.Laws.Lists.{first_some_none, all_tab}
use Rattle.model.specs.Laws.Words.{words_bounded}
use Rattle.model.specs.Laws.Supposed.{RuleOk, Accepted}
use Rattle.model.specs.Laws.Read.{tables_ok, counters_ok, rule_at_lem, steps_all_ok}
use Rattle.model.specs.Safety.CheckExact.{check→conditions, conditions→check}

pub check_exact : CheckExact
unfolding rule_refusal
check_exact w r = (
  (λ e. check→conditions (read_rule w (rule_first w r)) (tables w) arity (seq_none (check (tables w) arity (read_rule w (rule_first w r)) (length (read_rule w (rule_first w r)).instrs)) _ _ e).0),
  λ c. rw (conditions→check (read_rule w (rule_first w r)) (tables w) arity c (length (read_rule w (rule_first w r)).instrs)),
)

-- a book that draws none of refusals 1 to 11
module _ (book : List ℕ) (bytes : All Byte book) (unrefused : book_refusal book ≡ None) where
  abbrev w : List ℕ
  w = words_of book

  no_words : words_refusal w ≡ None
  unfolding book_refusal
  no_words = (else_none (bytes_refusal book) _ unrefused).1

  pub no_contents : contents_refusal w ≡ None
  unfolding words_refusal
  no_contents = (else_none (contents_refusal w) _ no_words).0

  pub no_bodies : bodies_refusal w ≡ None
  unfolding words_refusal
  no_bodies = (else_none (bodies_refusal w) _ (else_none (contents_refusal w) _ no_words).1).0

  pub no_rules : rules_refusal w ≡ None
  unfolding words_refusal
  no_rules = (else_none (rules_refusal w) _ (else_none (bodies_refusal w) _ (else_none (contents_refusal w) _ no_words).1).1).0

  pub no_steps : steps_refusal w ≡ None
  unfolding words_refusal
  no_steps = (else_none (rules_refusal w) _ (else_none (bodies_refusal w) _ (else_none (contents_refusal w) _ no_words).1).1).1

  small : (p : ℕ) → get_or w p 0 < 4294967296
  small = words_bounded book bytes

  pub accepted : (answer : Answers) → NeverStale answer → (room : ℕ → Bool) → Accepted (machine book answer room) (counters w)
  unfolding rules_refusal rules
  accepted answer fine room = record {
    tables = tables_ok w small no_contents no_bodies;
    rules = all_tab (RuleOk (machine book answer room)) (λ r. read_rule w (rule_first w r)) (rule_count w) (λ r l. record {
      consts = rule_at_lem w small no_contents no_bodies r l;
      conditions = (check_exact w r).0 (first_some_none (rule_refusal w) (rule_count w) no_rules r l);
    });
    counters = counters_ok w small no_contents no_bodies;
    functions = fine;
  }

  own_steps : All (StepOk (tables w) (rules w)) (steps w)
  own_steps = steps_all_ok w small no_contents no_bodies no_steps

pub own_steps_lem : OwnSteps
own_steps_lem book bytes unrefused = own_steps book bytes unrefused
