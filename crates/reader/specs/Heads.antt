-- What an answer or the first checks make of a head. Assumes nothing.
use Rattle.leaves.specs.declared.refusals.Refusal.{Refusal}
use Rattle.std.specs.Prelude.{false, Err, Ok, Result, ⊤}
use Rattle.maps.specs.Heads.{empty_head}
use Rattle.maps.specs.declared.Phase.TheVariants.{Done}
use Rattle.maps.specs.declared.Head.{Head}
use Rattle.line_reader.specs.declared.Answer.{Answer}
use Rattle.line_reader.specs.declared.Answer.TheVariants.{More, Blank, Input}

abbrev pub done_head : Head → Head
done_head h =
    record {
      limit = h.limit;
      room = h.room;
      count = h.count;
      line = h.line;
      mark = h.mark;
      fields = h.fields;
      status = h.status;
      awaits = false;
      quirks = false;
      edited = h.edited;
      phase = Done;
    }

abbrev pub head_after : Result Answer Refusal → Head → Head
head_after (Ok More) h = h
head_after (Ok Blank) h = done_head h
head_after (Ok Input) h = done_head h
head_after (Err e) h = empty_head h.limit h.room false false Done

abbrev pub head_when : Result ⊤ Refusal → Head → Head → Head
head_when (Ok _) new old = new
head_when (Err e) new old = old
