-- The program's messages, by the definitions.
use Rattle.node_model.specs.Letters as letters
use Rattle.protocol_model.specs.declared.message.Message.{Message}
use Rattle.protocol_model.specs.Bodies.{body_view}

abbrev pub letter_of : Message → letters.Letter
letter_of m = record { sender = m.sender.0; receiver = m.receiver.0; time = m.time.0; body = body_view m.body }
