mod Hanging
