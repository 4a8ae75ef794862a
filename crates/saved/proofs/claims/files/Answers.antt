-- The claims, each a law of proofs/.
use Rattle.saved.proofs.FileLaws.{fields-of-bytes, bytes-of-fields}
use Rattle.saved.proofs.claims.files.Goals as goal

pub returns-clause-fields_of_bytes : goal.returns-clause-fields_of_bytes
returns-clause-fields_of_bytes c = fields-of-bytes

pub returns-clause-bytes_of_fields : goal.returns-clause-bytes_of_fields
returns-clause-bytes_of_fields c = bytes-of-fields
