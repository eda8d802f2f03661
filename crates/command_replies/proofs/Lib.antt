mod Arrays
mod WriteParts
