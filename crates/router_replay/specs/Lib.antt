pub mod RouterParts
