-- The sentences of edits and lookups hold. Assumes nothing.
use Rattle.lookups.proofs.HandLaws.{text_says}
use Rattle.says.specs.Edits.{Edits}
use Rattle.says.proofs.EditSays.{ask_says, ask_again}
use Rattle.says.proofs.EditAnswers.{ask_marks, ask_mark, ask_rest, ask_store, ask_block, ask_refused, ask_over, ask_full, ask_done, ask_left, remove_done}
use Rattle.says.proofs.LookupSays.{find_says, value_says, key_says}

pub edits : Edits
edits =
    record {
      alters =
          λ a m b s.
          record {
            says = ask_says m b s a;
            again = ask_again m b s a;
            marks = λ l e. ask_marks m b s a e l;
            mark = ask_mark m b s a;
            rest = ask_rest m b s a;
            store = ask_store m b s a;
            block = ask_block m b s a;
            refused = ask_refused m b s a;
            over = λ fine. ask_over m b s fine a;
            full = λ fine. ask_full m b s fine a;
            done = λ fine. ask_done m b s fine a;
            left = ask_left m b s a;
          };
      removes = λ key m b s fine. remove_done m b s fine key;
      looks =
          λ m b s fine. record { find = find_says m b s fine; value = value_says m b s fine; key = key_says m b s fine; status = text_says m b s fine };
    }
