-- `promise::one_owner_one_face` meets its contract.
use Rattle.mappings.proofs.Faces.{one_owner, agreed, one_face, face_used, face_stays}
use Rattle.mappings.proofs.InUse.{held_in_use}
use Rattle.mappings.proofs.promise.one_owner_one_face.Goals as goal

pub returns : goal.returns
returns c = record { owner = one_owner; agreed = agreed; busy = held_in_use; face = one_face; used = face_used; stays = face_stays }
