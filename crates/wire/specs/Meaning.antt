-- What the code's statements, messages and answers mean in the words of the rules. Assumes nothing.
use Rattle.std.specs.Prelude.{ℕ, ◌^◌, ◌<◌, ◌≡◌, true, Option as Maybe, Some, None}
use Rattle.std.proofs.Math.Option.{Option, none, some}
use Rattle.fields.specs.Names.{name_of}
use Rattle.rules.specs.Messages as messages
use Rattle.rules.specs.Messages.{vote, blame, blame_set, status}
use Rattle.rules.specs.Words as words
use Rattle.rules.specs.Words.{message}
use Rattle.wire.specs.declared.Statement.{Statement}
use Rattle.wire.specs.declared.Message.{Message}
use Rattle.wire.specs.declared.Message.TheVariants.{Stated, Vote, Blame, BlameSet, Status}

-- a statement, with the clock of its vote, if any
unfoldable pub statement_of : Statement → Option ℕ → words.Statement
unfolding name_of
statement_of x v =
    record {
      is_new_view = x.is_new_view;
      view = x.view;
      height = x.height;
      name = name_of x.name;
      link = name_of x.link;
      mask = x.mask;
      author = x.author;
      voted = v;
    }

-- the message of each case: its kind and its values
unfoldable pub message_of : Message → messages.Message
unfolding message statement_of name_of
message_of (Stated x) = message (statement_of x none)
message_of (Vote v h b a) = vote v h (name_of b) a
message_of (Blame v a) = blame v a
message_of (BlameSet v m) = blame_set v m
message_of (Status h b c m) = status h (name_of b) c m

-- a new-view's link is a certificate view, of 4 bytes
abbrev pub Linked : Statement → Type 0
Linked x = x.is_new_view ≡ true → name_of x.link < 256 ^ 4

-- every number fits the bytes of its field
abbrev pub Writable : Message → Type 0
Writable (Stated x) = Linked x
Writable (Vote v h b a) = Unit
Writable (Blame v a) = Unit
Writable (BlameSet v m) = Unit
Writable (Status h b c m) = Unit

-- the number that the paper gives to each case, 0 where there is a message, and the message: "4 unreadable message"
pub record Answer : Type 0 where
  pub number : ℕ
  pub message : Option messages.Message

abbrev pub answer_of : Maybe Message → Answer
answer_of (Some m) = record { number = 0; message = some (message_of m) }
answer_of None = record { number = 4; message = none }

-- the message of the answer, if any
unfoldable pub read_of : Maybe Message → Option messages.Message
unfolding message_of
read_of r = (answer_of r).message
