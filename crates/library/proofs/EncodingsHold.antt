-- Maps and trails in numbers: nothing is lost. Assumes nothing.
use Rattle.lent.proofs.BackLaws.{map_back, map_sound}
use Rattle.lent.proofs.LentLaws.{head_again, numbers_again, sound_parts}
use Rattle.trails.proofs.TrailLaws.{trail_again, trail_back, trail_sound}
use Rattle.library.specs.Encodings.{Encodings}

pub encodings : Encodings
encodings =
    record {
      map_back = λ m w. map_back m w.long w.fields;
      map_sound = λ m w. map_sound m w.long w.status;
      trail_back = trail_back;
      trail_sound = trail_sound;
      head_again = λ n t h. head_again n (sound_parts n t h).0;
      table_again = λ n t h. numbers_again t (sound_parts n t h).1;
      trail_again = trail_again;
    }
